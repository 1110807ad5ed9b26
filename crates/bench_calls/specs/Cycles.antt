-- What the benchmark's cycles of calls leave, and how many of the calls are refused: the outcomes folded over the
-- calls.
use Rattle.std.specs.Prelude.{ℕ, zero, suc, ◌+◌, ◌*◌, ◌/◌, ◌%◌, cond, List, eqb, leb, replicate}
use Rattle.model.specs.Outcome.{volume_after}
use Rattle.model.specs.Calls.{Call, outcome_of}
use Rattle.model.specs.Restart.{restart_of}
use Rattle.model.specs.declared.{answer.Answer.Answer, change.Change.TheVariants.Put, command.Command.Command}
use Rattle.model.specs.declared.state.State.{State}
use Rattle.model.specs.declared.answer.Answer.TheVariants.{Refused, Nothing, Done, Repaired}
use Rattle.model.specs.declared.command.Command.TheVariants.{Begin, Load, Force, Write}
use Rattle.model.specs.declared.command.Command.TheVariants.{Change, Note}

-- volume, memory and state after some calls, and how many of them were refused
pub record Run : Type 0 where
  pub volume : List ℕ
  pub memory : List ℕ
  pub state : State
  pub refused : ℕ

-- 1 for a refusal
abbrev pub is_refused : Answer → ℕ
is_refused (Refused n) = 1
is_refused Nothing = 0
is_refused Done = 0
is_refused (Repaired r) = 0

-- a restart
abbrev pub restart_run : List ℕ → List ℕ → Run
restart_run v m =
    let o = restart_of v m in
    record { volume = v; memory = o.memory; state = o.state; refused = is_refused o.answer }

-- one more call
abbrev pub call_run : Run → Call → Run
call_run r c =
    let o = outcome_of c r.volume r.memory r.state in
    record {
      volume = volume_after r.volume o.stored;
      memory = o.memory;
      state = o.state;
      refused = r.refused + is_refused o.answer;
    }

-- command k of cycle n, counted from 0
unfoldable pub command_in : ℕ → ℕ → Command
command_in n k =
    cond (eqb k 0) (Begin (n + 1) 1 7)
    (cond (eqb k 1) (Change (n + 1) (Put 100 44))
    (cond (eqb k 2) Force (cond (eqb k 3) Force (cond (eqb k 4) (Write (n + 1)) (cond (eqb k 5) Note (Load n 2))))))

-- command j of all
abbrev pub command_at : ℕ → Command
command_at j = command_in (j / 7) (j % 7)

-- the first j commands, each change with 44 bytes 9
unfoldable pub run_over : Run → ℕ → Run
run_over r zero = r
run_over r (suc j) = call_run (run_over r j) (command_at j, replicate 44 9)

-- a restart and `count` cycles, at most 1,024
abbrev pub cycled : List ℕ → List ℕ → ℕ → Run
cycled v m count = run_over (restart_run v m) (7 * cond (leb count 1024) count 1024)
