-- Upkeep advises six kinds of calls; of each the eight numbers tell all.
use Prim.Native.Nat.{ℕ}
use mathlib.Core.Path.{◌≡◌, refl, ap}
use mathlib.Core.Bool.{Bool, true, false, cond, ◌||◌}
use mathlib.Core.List.{List, ◌∷◌}
use native.Mathlib.Omega.{arith}
use lib.Dec.{eqb, leb, ltb}
use lib.ListN.{length, get_or, replicate}
use borrow.Author.Tests.{eq-eqb}
use Rattle.model.specs.Tables.{first_of, tabulate}
use Rattle.model.specs.Geometry.{ring, geometry_of}
use Rattle.model.specs.State.{log_full, notes_full, note_pending, held}
use Rattle.model.specs.Refusals.{page_dirty, load_rows}
use Rattle.model.specs.Calls.{Call, no_payload}
use Rattle.model.specs.declared.{state.State.State, change.Change.TheVariants.Put}
use Rattle.model.specs.declared.command.Command.TheVariants.{Load, Force, Write}
use Rattle.model.specs.declared.command.Command.TheVariants.{Change, Backup, Note}
use Rattle.upkeep_policy.specs.Upkeep.{Advice, idle, stuck, make, renew, no_slot, free_slot, reserve, first_needed_note}
use Rattle.upkeep_policy.specs.Upkeep.{first_needed_log, upkeep_of, advise_rows, advise_of}
use Rattle.face.specs.Numbers.{state_of, fits}
use Rattle.face.specs.Arguments.{change_from, payload_from}
use Rattle.face.specs.Advice.{command_numbers, upkeep_rows, upkeep_face}
use Rattle.called.specs.Told.{call_from, AdviceTold}

-- the numbers of a call are of kind 1, and tell it
abbrev pub numbers_for : Call → List ℕ
numbers_for c = command_numbers c.0 (get_or c.1 0 0)

pub record Tells (c : Call) : Type 0 where
  pub kind : get_or (numbers_for c) 0 0 ≡ 1
  pub call : call_from (numbers_for c) ≡ c

told-load : (p r : ℕ) → Tells (Load p r, no_payload)
unfolding call_from
told-load p r = record { kind = refl; call = refl }

told-force : Tells (Force, no_payload)
unfolding call_from
told-force = record { kind = refl; call = refl }

told-write : (p : ℕ) → Tells (Write p, no_payload)
unfolding call_from
told-write p = record { kind = refl; call = refl }

told-backup : (p b : ℕ) → Tells (Backup p b, no_payload)
unfolding call_from
told-backup p b = record { kind = refl; call = refl }

told-note : Tells (Note, no_payload)
unfolding call_from
told-note = record { kind = refl; call = refl }

told-put : (p b : ℕ) → Tells (Change p (Put 0 1), b ∷ replicate 43 0)
unfolding call_from change_from payload_from tabulate
told-put p b = record { kind = refl; call = refl }

-- ---- whatever is advised

abbrev pub Told : Advice → Type 0
Told a = (c : Call) → a ≡ make c → Tells c

abbrev made : Advice → Call
made idle = (Note, no_payload)
made (stuck p) = (Note, no_payload)
made (make c) = c

of-make : (c : Call) → Tells c → Told (make c)
of-make c t d e = let q : c ≡ d = ap made e in rw (← q) t

abbrev is_make : Advice → ℕ
is_make idle = 0
is_make (stuck p) = 0
is_make (make c) = 1

of-idle : Told idle
of-idle c e = let z : ◌≡◌ {A = ℕ} 0 1 = ap is_make e in absurd (omega (arith, z))

of-stuck : (p : ℕ) → Told (stuck p)
of-stuck p c e = let z : ◌≡◌ {A = ℕ} 0 1 = ap is_make e in absurd (omega (arith, z))

either : (b : Bool) (x y : Advice) → Told x → Told y → Told (cond b x y)
either true x y p q = p
either false x y p q = q

module _ (v m : List ℕ) (s : State) (r : ℕ) where
  pub renewed : (p : ℕ) (written : Bool) → Told (renew v m s r p written)
  unfolding renew
  renewed p written =
      let g = geometry_of v in
      let w = either (page_dirty s p) _ _ (either (notes_full g v s) _ _ (of-stuck p) (of-make _ (told-write p)))
      (either (log_full g v s) _ _ (of-stuck p) (of-make _ (told-put p _))) in
      let b = either (no_slot g s || notes_full g v s) _ _ (of-stuck p) (of-make _ (told-backup p (free_slot g s))) in
      let l = either (eqb (first_of (load_rows v m s p r)) 23) _ _ (of-stuck p) (of-make _ (told-load p r)) in
      either (held s p) _ _ (either written _ _ w b) l

  advised : Told (upkeep_of v m s r)
  unfolding upkeep_of
  advised =
      let g = geometry_of v in
      let i = first_needed_note g v s in
      let j = first_needed_log g v s in
      let in_ring = either (leb i 2) _ _ (renewed _ _) (either (leb j (reserve g)) _ _ (renewed _ false) of-idle) in
      either (note_pending s.note) _ _ (of-make _ told-note)
      (either (ltb 0 s.pending) _ _ (of-make _ told-force) (either (ring g) _ _ in_ring of-idle))

-- numbers that fit and a report of 8 are refused as upkeep is
none-holds : (v m xs : List ℕ) (r : ℕ) (report : List ℕ) → fits xs ≡ true → length report ≡ 8
    → first_of (advise_rows v m (state_of xs) r) ≡ 0 → first_of (upkeep_rows v m xs r report) ≡ 0
unfolding advise_rows
none-holds v m xs r report f l n = rw (f, eq-eqb (length report) 8 l) n

pub advice-told : AdviceTold
unfolding upkeep_face advise_of
advice-told v m xs r report f l n c e =
    let t = advised v m (state_of xs) r c e in
    let z = none-holds v m xs r report f l n in
    let k = eq-eqb (first_of (upkeep_rows v m xs r report)) 0 z in
    (z, rw (k, n, e) t.kind, rw (k, n, e) t.call)
