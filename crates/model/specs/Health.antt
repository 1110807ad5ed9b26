-- What an answer tells of a page's health: when two inspections are the same, and what class, start and count say of
-- each other. States document 02, §8. The comparison of two stores goes on using body and number only (`Claim.Agree`):
-- with `Same` it would be false, since damage may differ.
use Rattle.std.specs.Prelude.{ℕ, ◌≤◌}
use mathlib.Core.{Path.◌≡◌, Logic.◌≢◌, Logic.◌⊎◌, Logic.◌↔◌, Bool.false, List.List}
use Rattle.model.specs.{Bytes.part, Item.valid_image, Outcome.refusal_of, Calls.load_of, History.on}
use Rattle.model.specs.Repair.{View, repair_of}
use Rattle.model.specs.Restart.{Inspected, inspect_of}
use Rattle.model.specs.Claim.{History, Legal, reached, inspection, Agree}
use Rattle.model.specs.Types.{Geometry, State, Good, Failed, Ahead, Repair, Repaired}
use Rattle.model.specs.declared.answer.Start.TheVariants.{Own}

-- ---- sameness

-- "Sameness now includes class, start and count": the answers are equal, refusals too, and bytes 4 to 251 where not
-- refused
pub record Same (a b : Inspected) : Type 0 where
  pub answer : a.answer ≡ b.answer
  pub bytes : refusal_of a.answer ≡ 0 → part a.buffer 4 248 ≡ part b.buffer 4 248

-- "start own with 0 replayed": the page is handed over as its own image has it
pub record Untouched (r : Repair) : Type 0 where
  pub start : r.start ≡ Own
  pub count : r.count ≡ 0

-- On any bytes: "start own with 0 replayed is answered exactly for Good", and Failed exactly for an image that is not
-- valid. Of a view it takes a durable record: with none, an own image with number 0 is Good and the walk has no start.
-- No answer meets that: row 7 of Inspect, and of Load row 7 with a well-formed state, in which a page in no frame has
-- no pending record.
pub record Health : Type 0 where
  pub view : (g : Geometry) (p : ℕ) (w : View) → 1 ≤ w.durable
      → ((repair_of g p w).class ≡ Good) ↔ Untouched (repair_of g p w)
  pub inspects : (v : List ℕ) (p : ℕ) (buffer : List ℕ) (r : Repair) → (inspect_of v p buffer).answer ≡ Repaired r
      → (r.class ≡ Good) ↔ Untouched r
  pub loads : (v m : List ℕ) (s : State) (p f : ℕ) (r : Repair) → (load_of v m s p f).answer ≡ Repaired r
      → (r.class ≡ Good) ↔ Untouched r
  pub failed : (g : Geometry) (p : ℕ) (w : View) → ((repair_of g p w).class ≡ Failed) ↔ (valid_image g p w.own ≡ false)

-- "demand 3's histories never give Ahead": no inspection after them, and no Load in the machine that they leave
pub record NeverAhead : Type 0 where
  pub inspects : (h : History) → Legal h → (p : ℕ) (buffer : List ℕ) (r : Repair)
      → (inspect_of (reached h).volume p buffer).answer ≡ Repaired r → r.class ≢ Ahead
  pub loads : (h : History) → Legal h → (m : List ℕ) (s : State) → (reached h).power ≡ on m s → (p f : ℕ) (r : Repair)
      → (load_of (reached h).volume m s p f).answer ≡ Repaired r → r.class ≢ Ahead

-- inspections that are the same agree, where demand 3 speaks of them: not refused, or 7
abbrev pub SameAgrees : Type 0
SameAgrees =
    (h k : History) (x y : List ℕ) (p : ℕ)
    → Same (inspect_of (reached h).volume p x) (inspect_of (reached k).volume p y)
    → (inspection h p x ≡ 7) ⊎ (inspection h p x ≡ 0) → Agree h k x y p
