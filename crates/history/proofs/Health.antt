-- No legal history gives the class Ahead, and inspections that are the same agree.
use mathlib.Core.Path.{◌≡◌, refl, sym, ap, ◌∙◌, subst}
use mathlib.Core.Logic.{◌≢◌, inl, inr}
use mathlib.Core.Bool.{Bool, true, false, cond}
use mathlib.Core.List.{List}
use Prim.Native.Nat.{ℕ, ◌≤◌}
use native.Mathlib.Omega.{arith}
use lib.Dec.{eqb, ltb}
use lib.ListN.{length}
use borrow.Author.Tests.{le-ltb, not-false}
use Rattle.laws.proofs.Tables.{none-at, within-bounds}
use Rattle.laws.proofs.Health.{load-repairs, inspect-repairs}
use Rattle.model.specs.Geometry.{page_at, item}
use Rattle.model.specs.Item.{image_lsn, valid_image}
use Rattle.model.specs.Index.{entry_of}
use Rattle.model.specs.Scan.{index_of}
use Rattle.model.specs.Repair.{View, class_of, class_in, scanned_view, state_view, repair_of}
use Rattle.model.specs.Refusals.{inspect_rows, load_rows}
use Rattle.model.specs.Outcome.{refusal_of}
use Rattle.model.specs.Calls.{load_of}
use Rattle.model.specs.Restart.{inspect_of}
use Rattle.model.specs.History.{on}
use Rattle.model.specs.Claim.{History, Legal, reached}
use Rattle.model.specs.Health.{NeverAhead, SameAgrees}
use Rattle.model.specs.declared.{geometry.Geometry.Geometry, answer.Repair.Repair, answer.Answer.TheVariants.Repaired}
use Rattle.model.specs.declared.state.State.{State}
use Rattle.model.specs.declared.answer.Class.TheVariants.{Good, Behind, Stale, Ahead}
use Rattle.history.specs.Facts.{volume_of, heading_of}
use Rattle.history.proofs.Facts.{facts, heading}

-- a valid image that is no newer than the durable number is not Ahead
not-ahead : (t : Bool) (n d w : ℕ) → (t ≡ true → n ≤ d) → class_of t n d w ≢ Ahead
unfolding class_of
not-ahead true n d w b e = rest (eqb n d) (ltb n w) (rw (le-ltb d n (b refl)) at e)
  where
    rest : (a c : Bool) → cond a Good (cond c Stale Behind) ≡ Ahead → ⊥
    rest true c e = let z : ◌≡◌ {A = ℕ} 0 1 = cc in omega arith
    rest false true e = let z : ◌≡◌ {A = ℕ} 0 1 = cc in omega arith
    rest false false e = let z : ◌≡◌ {A = ℕ} 0 1 = cc in omega arith
not-ahead false n d w b e = let z : ◌≡◌ {A = ℕ} 0 1 = cc in omega arith

module _ (h : History) (legal : Legal h) where
  -- a page whose durable number is the volume's
  page-not-ahead : (p : ℕ) → 1 ≤ p → p ≤ h.pages → (w : View) → w.own ≡ item (heading_of h) (volume_of h) (page_at p)
      → w.durable ≡ (entry_of (index_of (heading_of h) (volume_of h)) p).durable → class_in (heading_of h) p w ≢ Ahead
  page-not-ahead p lo hi w o d =
      not-ahead (valid_image (heading_of h) p w.own) (image_lsn w.own) w.durable w.written
      (rw (o, d) (facts.own h legal p lo hi).not-above)

  pages-are : (heading_of h).pages ≡ h.pages
  pages-are = ap (λ (g : Geometry). g.pages) (heading h legal)

  inspects-not : (p : ℕ) (buffer : List ℕ) (r : Repair) → (inspect_of (volume_of h) p buffer).answer ≡ Repaired r → r.class ≢ Ahead
  unfolding inspect_rows repair_of
  inspects-not p buffer r e =
      let q = inspect-repairs (volume_of h) p buffer r e in
      let none = none-at (inspect_rows (volume_of h) p (length buffer)) (omega arith) q.0 in
      let b = within-bounds (heading_of h).pages p (not-false _ (none 2)) in
      subst (λ (y : Repair). y.class ≢ Ahead) q.1
      (page-not-ahead p b.0 (rw pages-are at b.1) (scanned_view (heading_of h) (volume_of h) p) refl refl)

  loads-not : (m : List ℕ) (s : State) → (reached h).power ≡ on m s → (p f : ℕ) (r : Repair)
      → (load_of (volume_of h) m s p f).answer ≡ Repaired r → r.class ≢ Ahead
  unfolding load_rows repair_of
  loads-not m s o p f r e =
      let q = load-repairs (volume_of h) m s p f r e in
      let none = none-at (load_rows (volume_of h) m s p f) (omega arith) q.0 in
      let b = within-bounds (heading_of h).pages p (not-false _ (none 3)) in
      let hi : p ≤ h.pages = rw pages-are at b.1 in
      subst (λ (y : Repair). y.class ≢ Ahead) q.1
      (page-not-ahead p b.0 hi (state_view (heading_of h) (volume_of h) s p) refl (facts.entries h legal m s o p b.0 hi).durable)

pub never-ahead : NeverAhead
never-ahead = record { inspects = inspects-not; loads = loads-not }

pub same-agrees : SameAgrees
same-agrees h k x y p e (inl z) = inl (z, ap refusal_of (sym e.answer) ∙ z)
same-agrees h k x y p e (inr z) = inr (z, ap refusal_of (sym e.answer) ∙ z, e.bytes z)
