-- Mending names calls of upkeep's renewals; of each the eight numbers tell all.
use Prim.Native.Nat.{ℕ}
use mathlib.Core.Path.{◌≡◌, refl, ap}
use mathlib.Core.Bool.{Bool, true, false, cond, ◌&&◌, ◌||◌, not}
use mathlib.Core.List.{List}
use native.Mathlib.Omega.{arith}
use lib.Dec.{eqb}
use lib.ListN.{length}
use borrow.Author.Tests.{eq-eqb}
use Rattle.model.specs.Tables.{first_of}
use Rattle.model.specs.Geometry.{ring, geometry_of}
use Rattle.model.specs.Index.{entry_of}
use Rattle.model.specs.State.{held}
use Rattle.model.specs.Repair.{state_view, class_in}
use Rattle.model.specs.Calls.{Call}
use Rattle.model.specs.declared.state.State.{State}
use Rattle.upkeep_policy.specs.Upkeep.{Advice, idle, stuck, make, renew}
use Rattle.mend_policy.specs.Mend.{stands, reaches, margin, may_write, is_ahead, is_stale, Mending, whole, single, lost}
use Rattle.mend_policy.specs.Mend.{ahead, full, call, mending, mend_of, mend_rows, mended_of}
use Rattle.face.specs.Numbers.{state_of, fits}
use Rattle.face.specs.Mending.{mend_face_rows, mend_face}
use Rattle.called.specs.MendTold.{MendTold}
use Rattle.called.proofs.Told.{Tells, renewed}

abbrev Named : Mending → Type 0
Named a = (c : Call) → a ≡ call c → Tells c

abbrev is_call : Mending → ℕ
is_call whole = 0
is_call single = 0
is_call lost = 0
is_call ahead = 0
is_call full = 0
is_call (call c) = 1

none : (a : Mending) → is_call a ≡ 0 → Named a
none a z c e = let y : ◌≡◌ {A = ℕ} 0 1 = cc in absurd (omega (arith, y))

same-call : (a c : Call) → call a ≡ call c → a ≡ c
same-call a c e = cc

either : (b : Bool) (x y : Mending) → Named x → Named y → Named (cond b x y)
either true x y p q = p
either false x y p q = q

from-advice : (in_frame : Bool) (a : Advice) → ((c : Call) → a ≡ make c → Tells c) → Named (mending in_frame a)
from-advice in_frame idle t = none whole refl
from-advice true (stuck p) t = none full refl
from-advice false (stuck p) t = none lost refl
from-advice in_frame (make a) t = λ c e. t c (ap make (same-call a c e))

named : (v m : List ℕ) (s : State) (r p : ℕ) → Named (mend_of v m s r p)
unfolding mend_of
named v m s r p =
    let g = geometry_of v in
    let n = entry_of s.index p in
    let w = state_view g v s p in
    let far = reaches g w s.durable p (margin g) in
    either (not (ring g) || eqb n.durable 0) _ _ (none whole refl)
    (either (is_ahead (class_in g p w)) _ _ (none ahead refl)
    (either (not (stands g v n p)) _ _ (from-advice (held s p) (renew v m s r p false) (renewed v m s r p false))
    (either (may_write g n && (not far || is_stale (class_in g p w))) _ _ (from-advice (held s p) (renew v m s r p true) (renewed v m s r p true))
    (either far _ _ (none whole refl) (none single refl)))))

none-holds : (v m xs : List ℕ) (r p : ℕ) (report : List ℕ) → fits xs ≡ true → length report ≡ 8
    → first_of (mend_rows v m (state_of xs) r p) ≡ 0 → first_of (mend_face_rows v m xs r p report) ≡ 0
unfolding mend_rows
none-holds v m xs r p report f l n = rw (f, eq-eqb (length report) 8 l) n

pub mend-told : MendTold
unfolding mend_face mended_of
mend-told v m xs r p report f l n c e =
    let t = named v m (state_of xs) r p c e in
    let z = none-holds v m xs r p report f l n in
    let k = eq-eqb (first_of (mend_face_rows v m xs r p report)) 0 z in
    (z, rw (k, n, e) t.kind, rw (k, n, e) t.call)
