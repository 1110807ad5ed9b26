-- `repair::rebuild::apply` meets its contract. The loop keeps `Replaying`: the rest of the chain makes the whole of the body.
use Rattle.model.specs.Repair.{replay_chain}
use Rattle.repair.specs.Walked.{log_of}
use Rattle.repair.proofs.Replays.{Replaying}
use Rattle.repair.proofs.rebuild.apply.Given as goal

abbrev pub invariant-loop-n : goal.invariant-loop-n
invariant-loop-n l =
    let log = log_of l.t.volume.geometry l.t.volume.bytes.now in
    Replaying log l.t.page l.t.entry.durable (replay_chain log l.lsns l.initial.body) l.body l.n-iterator.iter.rest.now
