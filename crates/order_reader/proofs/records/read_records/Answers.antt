use Rattle.std.proofs.Common.{Bor, List, ℕ, ◌∙◌, sym, refl, inl, inr, map, Some, ◌∷◌, []}
use Rattle.std.proofs.lemmas.List.{map-append}
use Rattle.csv.specs.Reading.{Reached, default_config, strip_bom}
use Rattle.csv.specs.Records.{fields_of}
use Rattle.csv.specs.declared.parser.State.TheVariants.{StartRecord}
use Rattle.csv.proofs.ReadFacts.{rows-end, rows-more}
use Rattle.order_reader.proofs.Counted.{are_records}
use Rattle.order_reader.proofs.records.read_records.Goals as goal

pub loop-record-init : goal.loop-record-init
unfolding Reached
loop-record-init c =
    let made = c.from_reader-reader.ensures in
    let flexible = c.flexible.ensures in
    let plain = c.has_headers.ensures in
    rw (c.into_iter-record-iterator.ensures.into_iter_gives, c.into_byte_records-record-items.ensures.rdr, c.new-records.ensures.items) (record {
      untrimmed = rw (flexible, plain) at made.trim ∙ c.new.ensures.trim;
      ready = inr (inr (rw (flexible, plain) at made.has_headers, made.headers));
      more_turns = c.into_byte_records-record-items.ensures.left;
      config = rw (flexible, plain) at made.config ∙ c.new.ensures.config;
      flexible = rw flexible at made.flexible;
      left = strip_bom c.args.bytes.now;
      source = made.source;
      reached = (sym made.state, refl);
    })

pub loop-record-preserved : goal.loop-record-preserved
loop-record-preserved c =
    let so_far = c.loop-record.invariant in
    let before = c.loop-record.record-iterator.rdr in
    let records = map fields_of c.loop-record.records.items in
    let next = rw (c.in-Some.is, c.in-Ok.is) at (c.next.ensures.steps so_far.more_turns so_far.untrimmed) in
    let read = next.0 so_far.ready in
    let more = rows-more (λ (s : Bor (List ℕ)). Some s.now) before c.next.new.self.rdr (fields_of c.in-Ok.record) default_config StartRecord
    (strip_bom c.args.bytes.now) so_far.left records so_far.config so_far.source so_far.reached read.0 in
    record {
      untrimmed = read.0.3 ∙ so_far.untrimmed;
      ready = inl read.1;
      more_turns = read.2;
      config = read.0.2 ∙ so_far.config;
      flexible = next.3 ∙ so_far.flexible;
      left = more.0;
      source = more.1;
      reached = rw (c.in_ok-push-in-Ok.ensures.items, map-append fields_of c.loop-record.records.items (c.in-Ok.record ∷ [])) more.2;
    }

pub returns : goal.returns
returns c =
    let so_far = c.loop-record.invariant in
    let records = map fields_of c.loop-record.records.items in
    let ended = rw c.in-None.is at ((c.next.ensures.steps so_far.more_turns so_far.untrimmed).0 so_far.ready) in
    are_records default_config (strip_bom c.args.bytes.now) records (
      c.loop-record.record-iterator.rdr.state,
      so_far.left,
      so_far.reached,
      rows-end (λ (s : Bor (List ℕ)). Some s.now) c.loop-record.record-iterator.rdr c.next.new.self.rdr [] default_config so_far.left so_far.config so_far.source ended,
    )
