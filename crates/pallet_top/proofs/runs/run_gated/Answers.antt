use Rattle.pallet_top.proofs.Sentences.{memory_ran}
use Rattle.pallet_top.proofs.runs.run_gated.Goals as goal

pub returns-in-Err-clause-ran : goal.returns-in-Err-clause-ran
returns-in-Err-clause-ran g c = λ mode asks.
    rw (c.plain.ensures.code, c.plain.ensures.line) (memory_ran mode (g.S.Source.past c.args.source.now) (g.K.Sink.past c.args.sink.now))
