-- ME2: M2's call of a page that stands. No put is named where a clean page is newest on disk.
use mathlib.Core.Path.{◌≡◌, refl, sym, ap, ◌∙◌, subst}
use mathlib.Core.Logic.{◌≢◌}
use mathlib.Core.Bool.{Bool, true, false, not, ◌&&◌, ◌||◌}
use mathlib.Core.List.{List}
use Prim.Native.Nat.{ℕ, ◌-◌}
use native.Mathlib.Omega.{arith}
use lib.Dec.{eqb}
use lib.ListN.{length}
use borrow.Author.Tests.{eqb-false, eq-eqb}
use Rattle.laws.proofs.Tables.{by_cases, and_right, or-neither, true-not-false}
use Rattle.model.specs.Tables.{first_of, within}
use Rattle.model.specs.Geometry.{ring, geometry_of, item, page_at}
use Rattle.model.specs.Item.{image_lsn}
use Rattle.model.specs.Index.{entry_of}
use Rattle.model.specs.State.{frame_count, held, holder}
use Rattle.model.specs.Refusals.{page_dirty}
use Rattle.model.specs.Repair.{class_of, state_view, class_in}
use Rattle.model.specs.Effects.{is_good}
use Rattle.model.specs.Calls.{Call, rows_of}
use Rattle.model.specs.History.{Power}
use Rattle.model.specs.Claim.{History, reached, log_of}
use Rattle.model.specs.declared.{state.Entry.Entry, state.State.State}
use Rattle.history.proofs.Logs.{last_at, last_of}
use Rattle.history.proofs.Inv.{Inv, frame}
use Rattle.history.proofs.Context.{Ctx, entry-is, len, found-frame}
use Rattle.history.proofs.Facts.{facts}
use Rattle.history.proofs.Reached.{made_with}
use Rattle.history.proofs.Refusals.{call-refusal}
use Rattle.history.proofs.Steps.{context}
use Rattle.upkeep_policy.specs.Upkeep.{renew}
use Rattle.upkeep_theory.proofs.Idle.{idle-closed}
use Rattle.upkeep_theory.proofs.Shape.{Renewal, renewal}
use Rattle.mend_policy.specs.Mend.{stands, reaches, margin, may_write, is_ahead, is_stale, call, mend_of}
use Rattle.mend_policy.specs.MendClaim.{stands_on}
use Rattle.mend_theory.proofs.Named.{no_whole, no-single, no-ahead, by-renewal, mend-is-done}
use Rattle.mend_theory.proofs.Rests.{ends}
use Rattle.mend_theory.proofs.Loaded.{good-reaches, good-not-stale}
use Rattle.mend_theory.proofs.Clean.{Clean}
use Rattle.mend_theory.proofs.Onward.{base}
use Rattle.mend_theory.proofs.Seats.{Seat, geometry}

-- ---- M2's call of a page that stands

pub record Second (v m : List ℕ) (s : State) (r p : ℕ) (c : Call) : Type 0 where
  pub is-renewal : Renewal v m s r p true c
  pub some : (entry_of s.index p).durable ≢ 0
  pub need : (not (reaches (geometry_of v) (state_view (geometry_of v) v s p) s.durable p (margin (geometry_of v)))
      || is_stale (class_in (geometry_of v) p (state_view (geometry_of v) v s p))) ≡ true

pub second_call : (v m : List ℕ) (s : State) (r p : ℕ) (c : Call) → mend_of v m s r p ≡ call c
    → stands (geometry_of v) v (entry_of s.index p) p ≡ true → Second v m s r p c
unfolding mend_of
second_call v m s r p c e st =
    let g = geometry_of v in
    let n = entry_of s.index p in
    let w = state_view g v s p in
    let far = reaches g w s.durable p (margin g) in
    let b : not (stands g v n p) ≡ false = rw st in
    by_cases (not (ring g) || eqb n.durable 0)
    (λ t. no_whole c (rw t at e))
    (λ t. by_cases (is_ahead (class_in g p w))
    (λ a. no-ahead c (rw (t, a) at e))
    (λ a. by_cases (may_write g n && (not far || is_stale (class_in g p w)))
    (λ d. record {
      is-renewal = renewal v m s r p true c (by-renewal (held s p) (renew v m s r p true) c (rw (t, a, b, d) at e));
      some = eqb-false n.durable 0 (or-neither (not (ring g)) (eqb n.durable 0) t).1;
      need = and_right (may_write g n) (not far || is_stale (class_in g p w)) d;
    })
    (λ d. by_cases far (λ f. no_whole c (rw (t, a, b, d, f) at e)) (λ f. no-single c (rw (t, a, b, d, f) at e)))))

good-class : (valid : Bool) (n d w : ℕ) → valid ≡ true → n ≡ d → is_good (class_of valid n d w) ≡ true
unfolding class_of
good-class valid n d w t e = rw (t, eq-eqb n d e)

module _ (r W C p n : ℕ) (h : History) (m : List ℕ) (s : State) (t : Seat r W C p n h m s) where
  pub ctx : Ctx ⊥ (made_with h) (reached h).volume m (reached h).past s (log_of h).durable (log_of h).pending
  ctx = context (made_with h) (reached h).volume m (reached h).past s (log_of h)
      (subst (λ (y : Power). Inv ⊥ (made_with h) (reached h).volume (reached h).past y (log_of h)) t.is-on
      (base h t.legal t.uncarried))

  pub frame-in : within (frame_count (length m)) r ≡ true
  frame-in = (ends h r W C t.test m s t.is-on).frame

  pub taken : (c : Call) → mend_of (reached h).volume m s r p ≡ call c → first_of (rows_of c (reached h).volume m s) ≡ 0
  taken c e =
      sym (call-refusal c (reached h).volume m s)
      ∙ (mend-is-done h t.legal m s t.is-on r frame-in t.rests p t.low t.high c e).done

  pub stands_here : stands_on (reached h).volume p ≡ true
      → stands (geometry_of (reached h).volume) (reached h).volume (entry_of s.index p) p ≡ true
  stands_here st = let y = facts.entries h t.legal m s t.is-on p t.low t.high in rw (y.slot, y.backup) st

  abbrev CleanHere : Type 0
  CleanHere = Clean (made_with h) p t.low t.high (log_of h) (reached h).volume s

  -- a page that is clean in a frame is Good
  clean-good : Clean (made_with h) p t.low t.high (log_of h) (reached h).volume s → held s p ≡ true → page_dirty s p ≡ false
      → is_good (class_in (geometry_of (reached h).volume) p (state_view (geometry_of (reached h).volume) (reached h).volume s p)) ≡ true
  clean-good cl hp d =
      let x = ctx in
      let fo = found-frame x p t.low (rw hp refl) in
      let row : holder s p - 1 ≡ fo.row = omega (arith, fo.holder-is) in
      let y = cl fo.row (omega (arith, fo.in_table, x.al.memory.high)) fo.page-is
      (ap (λ (j : ℕ). (frame s.frames j).dirty) (sym row) ∙ d) in
      let none = (idle-closed (reached h).volume m s r t.rests).1 in
      let l : length x.all ≡ length (log_of h).durable = omega (arith, len x, none, x.al.log.pending-is) in
      let e : (entry_of s.index p).durable ≡ last_of p x.all =
      ap (λ (a : Entry). a.durable) (entry-is x p t.low t.high) ∙ ap (last_at p x.all) (sym l) in
      let q : image_lsn (item (made_with h) (reached h).volume (page_at p)) ≡ (entry_of s.index p).durable =
      y.1 ∙ (ap (last_of p) (sym x.al.log.split) ∙ sym e) in
      rw (geometry r W C p n h m s t) (good-class _ _ _ _ y.0 q)

  -- so no put of it comes
  pub no-put : {A : Type 0} (c : Call) → Second (reached h).volume m s r p c → CleanHere → held s p ≡ true → page_dirty s p ≡ false → A
  no-put c y cl hp d =
      let g = geometry_of (reached h).volume in
      let u = clean-good cl hp d in
      absurd (true-not-false y.need (rw (good-reaches g (reached h).volume s p y.some u (margin g), good-not-stale _ u)))
