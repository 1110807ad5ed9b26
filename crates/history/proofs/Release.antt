-- Release keeps the invariant: a page whose changes are all durable leaves its frame.
use mathlib.Core.Path.{◌≡◌}
use mathlib.Core.Logic.{◌≢◌}
use mathlib.Core.Bool.{false}
use mathlib.Core.List.{List}
use Prim.Native.Nat.{ℕ, ◌-◌, ◌≤◌}
use native.Mathlib.Omega.{arith}
use lib.ListN.{length}
use Rattle.model.specs.Tables.{first_of}
use Rattle.model.specs.Geometry.{geometry_of}
use Rattle.model.specs.State.{holder}
use Rattle.model.specs.Refusals.{release_rows}
use Rattle.model.specs.Outcome.{StoredItem, nothing, volume_after}
use Rattle.model.specs.Effects.{with_frame, with_frames}
use Rattle.model.specs.AbstractLog.{Logged}
use Rattle.model.specs.declared.{geometry.Geometry.Geometry, answer.Answer.Answer, state.State.State}
use Rattle.history.proofs.Inv.{past-cons, frame}
use Rattle.history.proofs.FrameSteps.{frames-empty}
use Rattle.history.proofs.Context.{Ctx, Preserved, passed, in-range, geo, found-frame, unblocked}

module _ {C : Type 0} {g : Geometry} {v m : List ℕ} {past : List StoredItem} {s : State} {k w : List Logged}
    (x : Ctx C g v m past s k w) where
  pub keep-release : (p : ℕ) (an : Answer) → first_of (release_rows v m s p) ≡ 0
      → Preserved C g v past
      (record { answer = an; state = with_frames s (with_frame s (holder s p) 0 false) s.note; memory = m; stored = nothing })
      (record { durable = k; pending = w })
  unfolding volume_after release_rows
  keep-release p an e =
      let t = passed (release_rows v m s p) (omega arith) e in
      let q : (1 ≤ p) × (p ≤ g.pages) = rw (geo x) at (in-range (geometry_of v).pages p t.1.1.1.0) in
      let f = found-frame x p q.0 t.1.1.1.1.0 in
      let lo : 1 ≤ holder s p = omega (arith, f.holder-is) in
      let hi : holder s p ≤ x.al.F = omega (arith, f.holder-is, f.in_table) in
      let j : holder s p - 1 ≡ f.row = omega (arith, f.holder-is) in
      let nz : (frame s.frames (holder s p - 1)).page ≢ 0 = λ z. let y : p ≡ 0 = rw (j, f.page-is) at z in omega (arith, q.0) in
      record {
        ns = x.ns;
        holds = x.hs;
        noted = x.no;
        past-ok = past-cons g k past nothing tt x.ps;
        live = (
          x.all,
          record {
            F = x.al.F;
            memory = x.al.memory;
            log = x.al.log;
            frames = frames-empty g.pages x.al.F x.all (length k) s.frames m x.al.frames x.al.memory.high
                (holder s p - 1) (omega arith) nz (unblocked x (holder s p) lo hi t.1.1.1.1.1.0 nz);
            index = x.al.index;
            displaced = x.al.displaced;
            notes-is = x.al.notes-is;
            note-ok = x.al.note-ok;
          },
        );
      }
