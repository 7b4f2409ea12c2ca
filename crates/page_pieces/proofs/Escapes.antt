-- What the text of an id tells of it.
use Rattle.std.proofs.Common.{rules, ◌≡◌, ◌≢◌, ℕ, Bool, true, false, List, [], ◌∷◌, ◌++◌, arith, drop, get_or, refl, sym, ap, ◌∙◌, subst}
use Rattle.std.specs.Prelude.{◌==◌, if◌then◌else◌, codes, All}
use Rattle.std.proofs.lemmas.Bool.Decides.{nat_tests}
use Rattle.std.proofs.lemmas.List.Elements.{All-nil, All-append}
use Rattle.page_pieces.specs.Pieces.{escaped_byte, escaped}
use Rattle.page_pieces.specs.Laws.{IsPlain}

-- a byte, and its text
data Spelled : ℕ → List ℕ → Type 0 where
  less : Spelled 60 (codes "&lt;")
  greater : Spelled 62 (codes "&gt;")
  and : Spelled 38 (codes "&amp;")
  double_quote : Spelled 34 (codes "&quot;")
  single_quote : Spelled 39 (codes "&#39;")
  itself : (b : ℕ) → b ≢ 60 → b ≢ 62 → b ≢ 38 → b ≢ 34 → b ≢ 39 → Spelled b (b ∷ [])

from39 : (b : ℕ) (t : Bool) → (b == 39) ≡ t → b ≢ 60 → b ≢ 62 → b ≢ 38 → b ≢ 34 → Spelled b (if t then codes "&#39;" else b ∷ [])
from39 b true e n60 n62 n38 n34 =
    let is : 39 ≡ b = grind (arith, nat_tests) in
    subst (λ (x : ℕ). Spelled x (codes "&#39;")) is single_quote
from39 b false e n60 n62 n38 n34 =
    let n39 : b ≢ 39 = grind (arith, nat_tests) in
    itself b n60 n62 n38 n34 n39

from34 : (b : ℕ) (t : Bool) → (b == 34) ≡ t → b ≢ 60 → b ≢ 62 → b ≢ 38 → Spelled b (if t then codes "&quot;" else if b == 39 then codes "&#39;" else b ∷ [])
from34 b true e n60 n62 n38 =
    let is : 34 ≡ b = grind (arith, nat_tests) in
    subst (λ (x : ℕ). Spelled x (codes "&quot;")) is double_quote
from34 b false e n60 n62 n38 =
    let n34 : b ≢ 34 = grind (arith, nat_tests) in
    from39 b (b == 39) refl n60 n62 n38 n34

from38 : (b : ℕ) (t : Bool) → (b == 38) ≡ t → b ≢ 60 → b ≢ 62 → Spelled b (if t then codes "&amp;" else if b == 34 then codes "&quot;" else if b == 39 then codes "&#39;" else b ∷ [])
from38 b true e n60 n62 =
    let is : 38 ≡ b = grind (arith, nat_tests) in
    subst (λ (x : ℕ). Spelled x (codes "&amp;")) is and
from38 b false e n60 n62 =
    let n38 : b ≢ 38 = grind (arith, nat_tests) in
    from34 b (b == 34) refl n60 n62 n38

from62 : (b : ℕ) (t : Bool) → (b == 62) ≡ t → b ≢ 60 → Spelled b (if t then codes "&gt;" else if b == 38 then codes "&amp;" else if b == 34 then codes "&quot;" else if b == 39 then codes "&#39;" else b ∷ [])
from62 b true e n60 =
    let is : 62 ≡ b = grind (arith, nat_tests) in
    subst (λ (x : ℕ). Spelled x (codes "&gt;")) is greater
from62 b false e n60 =
    let n62 : b ≢ 62 = grind (arith, nat_tests) in
    from38 b (b == 38) refl n60 n62

from60 : (b : ℕ) (t : Bool) → (b == 60) ≡ t → Spelled b (if t then codes "&lt;" else if b == 62 then codes "&gt;" else if b == 38 then codes "&amp;" else if b == 34 then codes "&quot;" else if b == 39 then codes "&#39;" else b ∷ [])
from60 b true e =
    let is : 60 ≡ b = grind (arith, nat_tests) in
    subst (λ (x : ℕ). Spelled x (codes "&lt;")) is less
from60 b false e =
    let n60 : b ≢ 60 = grind (arith, nat_tests) in
    from62 b (b == 62) refl n60

spelled : (b : ℕ) → Spelled b (escaped_byte b)
spelled b = from60 b (b == 60) refl

plain_text : {b : ℕ} {text : List ℕ} → Spelled b text → All IsPlain text
plain_text less = search rules
plain_text greater = search rules
plain_text and = search rules
plain_text double_quote = search rules
plain_text single_quote = search rules
plain_text (itself b n60 n62 n38 n34 n39) = search rules

pub escaped_is_plain : (id : List ℕ) → All IsPlain (escaped id)
escaped_is_plain [] = All-nil IsPlain
escaped_is_plain (b ∷ id) = All-append IsPlain (escaped_byte b) (escaped id) (plain_text (spelled b)) (escaped_is_plain id)

-- the byte that a text begins with, and what follows its text
begins : List ℕ → ℕ
begins text =
    let second : ℕ = get_or text 1 0 in
    if get_or text 0 0 == 38
    then (if second == 108 then 60 else if second == 103 then 62 else if second == 97 then 38 else if second == 113 then 34 else 39)
    else get_or text 0 0

follows : List ℕ → List ℕ
follows text =
    let second : ℕ = get_or text 1 0 in
    if get_or text 0 0 == 38
    then (if second == 108 then drop 4 text else if second == 103 then drop 4 text else if second == 97 then drop 5 text else if second == 113 then drop 6 text else drop 5 text)
    else drop 1 text

begins_so : {b : ℕ} {text : List ℕ} → Spelled b text → (rest : List ℕ) → begins (text ++ rest) ≡ b
unfolding begins
begins_so less rest = refl
begins_so greater rest = refl
begins_so and rest = refl
begins_so double_quote rest = refl
begins_so single_quote rest = refl
begins_so (itself b n60 n62 n38 n34 n39) rest =
    let no : (b == 38) ≡ false = grind (arith, nat_tests) in
    ap (λ (t : Bool). if t then (if get_or (b ∷ rest) 1 0 == 108 then 60 else if get_or (b ∷ rest) 1 0 == 103 then 62 else if get_or (b ∷ rest) 1 0 == 97 then 38 else if get_or (b ∷ rest) 1 0 == 113 then 34 else 39) else b) no

follows_so : {b : ℕ} {text : List ℕ} → Spelled b text → (rest : List ℕ) → follows (text ++ rest) ≡ rest
unfolding follows
follows_so less rest = refl
follows_so greater rest = refl
follows_so and rest = refl
follows_so double_quote rest = refl
follows_so single_quote rest = refl
follows_so (itself b n60 n62 n38 n34 n39) rest =
    let no : (b == 38) ≡ false = grind (arith, nat_tests) in
    ap (λ (t : Bool). if t then (if get_or (b ∷ rest) 1 0 == 108 then drop 4 (b ∷ rest) else if get_or (b ∷ rest) 1 0 == 103 then drop 4 (b ∷ rest) else if get_or (b ∷ rest) 1 0 == 97 then drop 5 (b ∷ rest) else if get_or (b ∷ rest) 1 0 == 113 then drop 6 (b ∷ rest) else drop 5 (b ∷ rest)) else rest) no

some_text : {b : ℕ} {text : List ℕ} → Spelled b text → (rest : List ℕ) → text ++ rest ≢ []
some_text less rest e = search rules
some_text greater rest e = search rules
some_text and rest e = search rules
some_text double_quote rest e = search rules
some_text single_quote rest e = search rules
some_text (itself b n60 n62 n38 n34 n39) rest e = search rules

pub escaped_tells : (one other : List ℕ) → escaped one ≡ escaped other → one ≡ other
escaped_tells [] [] e = refl
escaped_tells [] (y ∷ other) e = absurd (some_text (spelled y) (escaped other) (sym e))
escaped_tells (x ∷ one) [] e = absurd (some_text (spelled x) (escaped one) e)
escaped_tells (x ∷ one) (y ∷ other) e =
    let first = sym (begins_so (spelled x) (escaped one)) ∙ ap begins e ∙ begins_so (spelled y) (escaped other) in
    let rest = sym (follows_so (spelled x) (escaped one)) ∙ ap follows e ∙ follows_so (spelled y) (escaped other) in
    ap (λ (b : ℕ). b ∷ one) first ∙ ap (λ (l : List ℕ). y ∷ l) (escaped_tells one other rest)
