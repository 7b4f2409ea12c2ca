-- What stands before the first sheet: the head of the page, and its styles.
use Rattle.std.specs.Prelude.{ℕ, List, ◌++◌, codes}

-- what a browser has to know before the styles
unfoldable pub head_text : List ℕ
head_text =
    codes "<html lang=\"en\"><head><meta charset=\"utf-8\">\n"
    ++ (codes "<meta name=\"viewport\" content=\"width=device-width,initial-scale=1\">\n"
    ++ (codes "<title>Pallet pattern sheets</title>\n"
    ++ (codes "<style>\n")))

-- colours for paper and for a light screen: a lying case is light and a standing one dark
unfoldable pub light_colours : List ℕ
light_colours =
    codes ":root{color-scheme:light dark;--ground:#fff;--ink:#111;--soft:#555;--line:#999;\n"
    ++ (codes "--lying:#ffd97a;--on-lying:#111;--standing:#2f6fb3;--on-standing:#fff;--edge:#111;\n"
    ++ (codes "--wood:#b98d52;--side:#f1ece2;--link:#0b4ea2;--proved:#0b5d1e;--open:#8a4b00;--unmet:#a40000}\n"))

-- colours for a dark screen
unfoldable pub dark_colours : List ℕ
dark_colours =
    codes "@media screen and (prefers-color-scheme:dark){:root{--ground:#15181c;--ink:#eee;--soft:#aaa;--line:#666;\n"
    ++ (codes "--lying:#f0c865;--standing:#2f6fb3;--edge:#000;\n"
    ++ (codes "--wood:#c9a26b;--side:#3a3d42;--link:#8ab8f0;--proved:#7fd08f;--open:#f0b060;--unmet:#ff8a80}}\n"))

-- all colours
unfoldable pub colours : List ℕ
colours = light_colours ++ dark_colours

-- the summary stands last in the text and is shown first; the link to it is seen when it is reached by a key
unfoldable pub page_styles : List ℕ
page_styles =
    codes "*{box-sizing:border-box}\n"
    ++ (codes "body{margin:0;background:var(--ground);color:var(--ink);font:1rem/1.4 system-ui,sans-serif}\n"
    ++ (codes "main{display:flex;flex-direction:column;gap:2.5rem;max-width:75rem;margin:auto;padding:1rem}\n"
    ++ (codes "#summary{order:-1}\n"
    ++ (codes "a{color:var(--link)}\n"
    ++ (codes "body>a{position:absolute;left:-99rem}\n"
    ++ (codes "body>a:focus{left:0;padding:1rem;background:var(--ground)}\n"
    ++ (codes "h1,h2,p,table{margin:0 0 .8rem}\n"
    ++ (codes "footer{color:var(--soft)}\n"))))))))

-- tables with thin lines, and the two counts in letters that are read from three metres
unfoldable pub word_styles : List ℕ
word_styles =
    codes "table{border-collapse:collapse}\n"
    ++ (codes "caption{text-align:left;font-weight:bold;padding:.2rem 0}\n"
    ++ (codes "th,td{border:1px solid var(--line);padding:.2rem .6rem;text-align:left;vertical-align:top}\n"
    ++ (codes ".counts{display:flex;flex-wrap:wrap;gap:.5rem 2rem;margin:0 0 1rem}\n"
    ++ (codes ".counts dd{margin:0;font-size:2rem;font-weight:bold;line-height:1.1}\n"
    ++ (codes ".proved{color:var(--proved)}.open{color:var(--open)}.unmet,.refused h2{color:var(--unmet)}\n"
    ++ (codes "h2{font-size:1.6rem}.count,.total{font-size:2.2rem;line-height:1.2}\n"))))))

-- the first form is the largest, and each number stands in the middle of its case
unfoldable pub figure_styles : List ℕ
figure_styles =
    codes ".forms{display:flex;flex-wrap:wrap;gap:1rem;align-items:flex-end;margin:0 0 1rem}\n"
    ++ (codes "figure{margin:0;flex:1 1 15rem;max-width:24rem}.forms figure:first-child{flex:1 1 100%;max-width:none}\n"
    ++ (codes "svg{display:block;width:100%;max-width:100%;max-height:18rem}.forms figure:first-child svg{max-height:32rem}\n"
    ++ (codes "rect,path,line{stroke:var(--edge);stroke-width:1.5px;vector-effect:non-scaling-stroke}\n"
    ++ (codes "svg.form text{text-anchor:middle;dominant-baseline:central;font-weight:bold;fill:var(--on-lying)}\n"
    ++ (codes "svg.form .standing+text{fill:var(--on-standing)}\n"
    ++ (codes ".lying{fill:var(--lying)}.standing{fill:var(--standing)}.slab{fill:var(--side)}\n"
    ++ (codes ".pallet{fill:none;stroke:var(--wood);stroke-width:4px}\n"
    ++ (codes ".break{fill:var(--side);stroke:var(--ink);stroke-dasharray:6 4}\nfigure.stack{max-width:none}figure.stack svg{max-height:32rem}\n"))))))))

-- how the page, its words and its figures are laid out
unfoldable pub shapes : List ℕ
shapes = page_styles ++ (word_styles ++ figure_styles)

-- on paper each sheet has a page of its own, the summary is the last, and a link looks like the text around it
unfoldable pub print_styles : List ℕ
print_styles =
    codes "@page{size:A4;margin:12mm}\n"
    ++ (codes "@media print{html{font-size:9.5pt}main{display:block;padding:0}\n"
    ++ (codes ".sheet,#summary{break-before:page}a{color:inherit;text-decoration:none}\n"
    ++ (codes "h2,h3,p,ul,table{margin:0 0 1.5mm}figure,tr{break-inside:avoid}\n"
    ++ (codes ".lying,.standing,.slab{print-color-adjust:exact}\n"
    ++ (codes "figure{flex:1 1 20mm}svg{max-height:34mm}figure.stack svg{max-height:38mm}\n"
    ++ (codes ".forms figure:first-child svg{max-height:69mm}}\n"))))))

-- all styles of the page; none is taken from elsewhere
unfoldable pub all_styles : List ℕ
all_styles = colours ++ (shapes ++ print_styles)

-- the end of the styles, and a link to the summary, which stands at the end
unfoldable pub body_head : List ℕ
body_head =
    codes "</style></head><body>\n"
    ++ (codes "<a href=\"#summary\">Summary</a>\n"
    ++ (codes "<main>\n"))

-- what stands behind the first line, up to the first sheet
unfoldable pub opening_rest : List ℕ
opening_rest = head_text ++ (all_styles ++ body_head)
