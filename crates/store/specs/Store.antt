-- What a method of `Store` gives back, and the outcome of a command.
use Rattle.std.specs.Prelude.{ℕ, List}
use Rattle.model.specs.Outcome.{Outcome}
use Rattle.model.specs.Calls.{outcome_of}
use Rattle.model.specs.declared.{answer.Reply.Reply, command.Command.Command}
use Rattle.store.specs.declared.Store.{Store}
use Rattle.store.specs.declared.Returned.{Returned}

-- the reply of a call, the next state as a store
abbrev pub wrapped : Reply → Returned
wrapped r = record { answer = r.answer; store = record { state = r.state } }

-- a command's outcome is that of the call which a history's step makes
abbrev pub performed : Store → List ℕ → List ℕ → Command → List ℕ → Outcome
performed s v m c payload = outcome_of (c, payload) v m s.state
