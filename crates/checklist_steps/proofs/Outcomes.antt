-- Laws of the steps: what a call leaves, from the parts that the code holds.
use Prim.Native.Nat.{ℕ, min, ◌-◌, ◌≤◌}
use mathlib.Core.Path.{◌≡◌, ap, ◌∙◌}
use mathlib.Core.List.{List}
use lib.Dec.{eqb, leb}
use lib.ListN.{length, take, replicate}
use lib.Seq.{take_all}
use native.Mathlib.Nat.{sub-zero}
use native.Mathlib.Omega.{arith}
use borrow.Author.Tests.{leb-true, leb-false}
use Rattle.std.proofs.Math.Nat.{min-eq_left, min-eq_right}
use Rattle.laws.proofs.Tables.{by_cases}
use Rattle.model.specs.Bytes.{splice}
use Rattle.model.specs.Tables.{first_of}
use Rattle.model.specs.Refusals.{restart_rows}
use Rattle.model.specs.Outcome.{Outcome, reply_of, volume_after, decided}
use Rattle.model.specs.Restart.{make_of, restart_of}
use Rattle.model.specs.declared.{command.Command.Command, geometry.Heading.TheVariants.Second}
use Rattle.store.specs.Store.{wrapped, performed}
use Rattle.store.specs.declared.Store.{Store}
use Rattle.store.specs.declared.Returned.{Returned}
use Rattle.checklist_steps.specs.declared.steps.Live.{Live}
use Rattle.checklist_steps.specs.Steps.{live, applied, made, restarted, begun, put_in, row_of, first_line, opening}

pub applied-is : (v v' m' : List ℕ) (o : Outcome) (r : Returned) (t : Store) → r ≡ wrapped (reply_of o) → t ≡ r.store
    → m' ≡ o.memory
    → v' ≡ volume_after v o.stored
    → live v' m' t ≡ applied v o
applied-is v v' m' o r t er et em ev = rw (et, er, em, ev)

pub made-is : (v m v' m' p : List ℕ) (s t : Store) (r : Returned) (c : Command) → r ≡ wrapped (reply_of (performed s v m c p))
    → t ≡ r.store
    → m' ≡ (performed s v m c p).memory
    → v' ≡ volume_after v (performed s v m c p).stored
    → live v' m' t ≡ made (live v m s) c p
unfolding made
made-is v m v' m' p s t r c er et em ev = applied-is v v' m' (performed s v m c p) r t er et em ev

-- a restart stores nothing
restart-volume : (v m : List ℕ) → v ≡ volume_after v (restart_of v m).stored
unfolding restart_of decided volume_after
restart-volume v m = by_cases (eqb (first_of (restart_rows v m)) 0) (λ t. rw t) (λ t. rw t)

pub restart-is : (v m m' : List ℕ) (r : Returned) (t : Store) → r ≡ wrapped (reply_of (restart_of v m)) → t ≡ r.store
    → m' ≡ (restart_of v m).memory
    → live v m' t ≡ restarted v m
restart-is v m m' r t er et em = applied-is v v m' (restart_of v m) r t er et em (restart-volume v m)

-- so many bytes, or all
take-min : (n : ℕ) (s : List ℕ) → take (min (length s) n) s ≡ take n s
take-min n s =
    by_cases (leb (length s) n) (λ t. let h : length s ≤ n = omega (arith, leb-true (length s) n t) in
    rw (min-eq_left h, take_all n s h, take_all (length s) s (omega arith)))
    (λ t. let h : n ≤ length s = omega (arith, leb-false (length s) n t) in rw (min-eq_right h))

-- a line's bytes, put over zeros
pub row_is : (s r : List ℕ) (n : ℕ) → n ≡ min (length s) 44 → r ≡ splice (replicate 44 0) 0 (take (n - 0) s) → r ≡ row_of s
unfolding row_of
row_is s r n en er = er ∙ ap (λ (x : List ℕ). splice (replicate 44 0) 0 x) (rw (sub-zero n, en) (take-min 44 s))

-- the start of every check: a volume made, page 1 begun, and its first line
pub opened-is : (w a b : Live) (v v' m : List ℕ) → w ≡ put_in a 1 0 first_line → a ≡ begun b 1 → b ≡ restarted v' m
    → v' ≡ (make_of Second v 2 1 16 8).volume
    → w ≡ opening v m
opened-is w a b v v' m ew ea eb ev = rw (ew, ea, eb, ev)
