-- `capi::readers::pagestore_inspect` hands on what `inspect` ensures.
use mathlib.Core.Path.{ap, ◌∙◌}
use Rattle.model.specs.Outcome.{refusal_of}
use Rattle.capi.proofs.readers.pagestore_inspect.Goals as goal

pub returns : goal.returns
returns c = let e = c.inspect.ensures in record { answer = c.number.ensures ∙ ap refusal_of e.answer; buffer = e.buffer }
