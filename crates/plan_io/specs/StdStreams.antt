-- What is seen of a source over a reader of std, and of a sink over a writer of std.
use Rattle.plan_io.specs.Streams.{Intake, Outlet}
use Rattle.plan_io.specs.declared.std_streams.StdSource.{StdSource}
use Rattle.plan_io.specs.declared.std_streams.StdSink.{StdSink}

abbrev pub source_past : {I : Type 0} → StdSource I → Intake
source_past s = record { given = s.passed.bytes; ended = s.ended; faults = s.failures }

abbrev pub source_input : {I : Type 0} → StdSource I → I
source_input s = s.input

abbrev pub sink_past : {O : Type 0} → StdSink O → Outlet
sink_past s = record { taken = s.passed.bytes; faults = s.failures }

abbrev pub sink_output : {O : Type 0} → StdSink O → O
sink_output s = s.output
