-- The parts of a run as the code holds them: what a restart and a command make of them.
use Prim.Native.Nat.{ℕ, ◌+◌, ◌*◌}
use mathlib.Core.Path.{◌≡◌, refl}
use mathlib.Core.Bool.{cond}
use mathlib.Core.List.{List}
use lib.Dec.{leb}
use lib.ListN.{replicate}
use native.Mathlib.Numerals.{add-one}
use Rattle.model.specs.Outcome.{reply_of, volume_after}
use Rattle.model.specs.Restart.{restart_of}
use Rattle.model.specs.declared.command.Command.{Command}
use Rattle.store.specs.Store.{wrapped, performed}
use Rattle.store.specs.declared.Store.{Store}
use Rattle.store.specs.declared.Returned.{Returned}
use Rattle.bench_calls.specs.Cycles.{Run, is_refused, restart_run, call_run, command_at, run_over, cycled}

abbrev pub run_at : List ℕ → List ℕ → Store → ℕ → Run
run_at v m s n = record { volume = v; memory = m; state = s.state; refused = n }

pub restart-is : (v m m' : List ℕ) (o : Returned) (k : ℕ) → o ≡ wrapped (reply_of (restart_of v m)) → m' ≡ (restart_of v m).memory
    → k ≡ is_refused o.answer
    → run_at v m' o.store k ≡ restart_run v m
restart-is v m m' o k eo em ek = rw (ek, em, eo)

pub call-is : (v m v' m' p : List ℕ) (s : Store) (o : Returned) (n k : ℕ) (c : Command) → o ≡ wrapped (reply_of (performed s v m c p))
    → m' ≡ (performed s v m c p).memory
    → v' ≡ volume_after v (performed s v m c p).stored
    → k ≡ is_refused o.answer
    → run_at v' m' o.store (n + k) ≡ call_run (run_at v m s n) (c, p)
call-is v m v' m' p s o n k c eo em ev ek = rw (ek, em, ev, eo)

-- no command
pub run_none : (r : Run) → r ≡ run_over r 0
unfolding run_over
run_none r = refl

-- one command more
pub run_more : (r x y : Run) (j : ℕ) (c : Command) → x ≡ run_over r j → c ≡ command_at j → y ≡ call_run x (c, replicate 44 9)
    → y ≡ run_over r (j + 1)
unfolding run_over
run_more r x y j c ex ec ey = rw (ey, ex, ec, add-one)

-- all of them
pub run-all : (v m : List ℕ) (count n j : ℕ) (start x : Run) → start ≡ restart_run v m → n ≡ cond (leb count 1024) count 1024
    → j ≡ 7 * n
    → x ≡ run_over start j
    → x ≡ cycled v m count
run-all v m count n j start x es en ej ex = rw (ex, ej, en, es)
