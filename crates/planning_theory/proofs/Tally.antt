-- What a store has in use beside what was counted: its frames, its notes and the slots in its index. Each part of a call keeps it.
use mathlib.Core.Path.{◌≡◌, refl, sym, ap, ◌∙◌, subst}
use mathlib.Core.Logic.{◌≢◌}
use mathlib.Core.Bool.{Bool, true, false, cond, ◌||◌}
use mathlib.Core.List.{List, [], ◌∷◌}
use Prim.Native.Nat.{ℕ, zero, suc, ◌+◌, ◌-◌, ◌*◌, ◌≤◌}
use native.Mathlib.Omega.{arith}
use native.Mathlib.Decide.{ℕ_discrete}
use lib.ListN.{length, get_or, set, length-set, length-append, length-take, length-drop}
use lib.Seq.{get_or-set_other}
use lib.Dec.{eqb}
use Rattle.model.specs.Tables.{within}
use Rattle.model.specs.Bytes.{splice}
use Rattle.model.specs.Item.{is_written, encode_change}
use Rattle.model.specs.Index.{empty_entry, entry_of, set_entry, with_last, with_durable, with_note, enter_note, slot_used}
use Rattle.model.specs.State.{pending_at, frame_at, last_number}
use Rattle.model.specs.Effects.{appended_state, appended_memory, forced_state, noted_state}
use Rattle.planning.specs.Rehearsal.{page_row, set_row, one_note, total_of}
use Rattle.model.specs.declared.{change.Change.Change, item.Note.Note, state.Entry.Entry}
use Rattle.model.specs.declared.state.State.{State}
use Rattle.planning.specs.declared.rehearsal.Settings.{Settings}
use Rattle.planning.specs.declared.rehearsal.Figures.{Figures}
use Rattle.planning_theory.proofs.Relation.{column-same}
use Rattle.planning_theory.proofs.Totals.{total-notes, notes-set, set-each, column-grows}
use Rattle.planning_theory.proofs.Slots.{Covered}
use Rattle.model.specs.Types.{PendingNote, None, Some}

-- a pending note of a backup: the backup was counted; and while slot b is kept free there is none
abbrev pub PendingCounted : ℕ → List Figures → PendingNote → Type 0
PendingCounted b fs None = Unit {0}
PendingCounted b fs (Some n) = is_written n ≡ false → ((page_row fs n.page).backups ≢ 0) × (b ≡ 0)

-- slot b is free, unless it is 0
pub record Tally (t : Settings) (b : ℕ) (m : List ℕ) (s : State) (fs : List Figures) : Type 0 where
  pub frames : 1024 + 256 * t.frames ≤ length m
  pub size : length fs ≡ 64
  pub notes : s.notes ≡ (total_of fs 64).notes
  pub covered : Covered s.index fs
  pub spare : b ≢ 0 → slot_used b s.index ≡ false
  pub pending : PendingCounted b fs s.note

-- ---- figures

-- the same notes, and no fewer backups
pub record Preserved (fs fs' : List Figures) : Type 0 where
  pub size : length fs' ≡ length fs
  pub notes : (total_of fs' 64).notes ≡ (total_of fs 64).notes
  pub backups : (p : ℕ) → (page_row fs p).backups ≤ (page_row fs' p).backups

pub preserved-same : (fs : List Figures) → Preserved fs fs
preserved-same fs = record { size = refl; notes = refl; backups = λ p. omega arith }

pub preserved-row : (fs : List Figures) (p : ℕ) (r : Figures) → r.notes ≡ (page_row fs p).notes → (page_row fs p).backups ≤ r.backups
    → Preserved fs (set_row fs p r)
preserved-row fs p r n b =
    let up = column-grows (λ (x : Figures). x.notes) fs (set_row fs p r)
    (set-each (λ (x y : Figures). x.notes ≤ y.notes) fs p r (λ x. omega arith) (omega arith)) 64 in
    let down = column-grows (λ (x : Figures). x.notes) (set_row fs p r) fs
    (set-each (λ (x y : Figures). y.notes ≤ x.notes) fs p r (λ x. omega arith) (omega arith)) 64 in
    record {
      size = length-set fs (p - 1) r;
      notes = omega (arith, up, down, total-notes fs 64, total-notes (set_row fs p r) 64);
      backups = set-each (λ (x y : Figures). x.backups ≤ y.backups) fs p r (λ x. omega arith) b;
    }

covered_same : (index : List Entry) (fs fs' : List Figures) → ((p : ℕ) → (page_row fs p).backups ≤ (page_row fs' p).backups) → Covered index fs
    → Covered index fs'
covered_same index fs fs' up h p lo hi nz z = h p lo hi nz (omega (arith, up p))

pub pending-same : (b : ℕ) (fs fs' : List Figures) → ((p : ℕ) → (page_row fs p).backups ≤ (page_row fs' p).backups) → (n : PendingNote)
    → PendingCounted b fs n → PendingCounted b fs' n
pending-same b fs fs' up None o = tt
pending-same b fs fs' up (Some n) o = λ w. (λ z. (o w).0 (omega (arith, up n.page)), (o w).1)

-- ---- the index

pub record SlotsStay (index index' : List Entry) : Type 0 where
  pub each : (p : ℕ) → (entry_of index' p).slot ≡ (entry_of index p).slot
  pub used : (b : ℕ) → slot_used b index' ≡ slot_used b index

slots_same : (index : List Entry) → SlotsStay index index
slots_same index = record { each = λ p. refl; used = λ b. refl }

used-set : (b : ℕ) (index : List Entry) (i : ℕ) (e : Entry) → e.slot ≡ (get_or index i empty_entry).slot
    → slot_used b (set index i e) ≡ slot_used b index
unfolding slot_used
used-set b [] i e h = refl
used-set b (x ∷ xs) zero e h = rw h
used-set b (x ∷ xs) (suc i) e h = ap (λ (y : Bool). eqb x.slot b || y) (used-set b xs i e h)

slots_set : (index : List Entry) (p : ℕ) (e : Entry) → e.slot ≡ (entry_of index p).slot → SlotsStay index (set_entry index p e)
slots_set index p e h = record { each = column-same (λ (y : Entry). y.slot) index p e h; used = λ b. used-set b index (p - 1) e h }

-- ---- what keeps the tally

module _ {t : Settings} {b : ℕ} {m : List ℕ} {s : State} {fs : List Figures} (y : Tally t b m s fs) where
  pub tally-step : (m' : List ℕ) (s' : State) (fs' : List Figures) → length m ≤ length m' → Preserved fs fs' → s'.notes ≡ s.notes
      → SlotsStay s.index s'.index → PendingCounted b fs' s'.note → Tally t b m' s' fs'
  tally-step m' s' fs' l k n i o =
      record {
        frames = omega (arith, y.frames);
        size = k.size ∙ y.size;
        notes = n ∙ (y.notes ∙ sym k.notes);
        covered = λ p lo hi nz. covered_same s.index fs fs' k.backups y.covered p lo hi (λ z. nz (i.each p ∙ z));
        spare = λ nz. i.used b ∙ y.spare nz;
        pending = o;
      }

  -- slot c, too, may be kept free, where no note is pending
  pub tally-free : (c : ℕ) → s.note ≡ None → slot_used c s.index ≡ false → Tally t c m s fs
  tally-free c quiet e =
      record {
        frames = y.frames;
        size = y.size;
        notes = y.notes;
        covered = y.covered;
        spare = λ nz. e;
        pending = subst
            (λ (n : PendingNote). PendingCounted c fs n) (sym quiet) tt;
      }

  pub tally-any : Tally t 0 m s fs
  tally-any =
      record {
        frames = y.frames;
        size = y.size;
        notes = y.notes;
        covered = y.covered;
        spare = λ nz. absurd (nz refl);
        pending = any
            s.note y.pending;
      }
    where
      any : (n : PendingNote) → PendingCounted b fs n → PendingCounted 0 fs n
      any None o = tt
      any (Some n) o = λ w. ((o w).0, refl)

  -- frames and a pending note
  pub tally-frames : (m' : List ℕ) (s' : State) (fs' : List Figures) → length m ≤ length m' → Preserved fs fs' → s'.notes ≡ s.notes
      → s'.index ≡ s.index → PendingCounted b fs' s'.note → Tally t b m' s' fs'
  tally-frames m' s' fs' l k n i o =
      tally-step m' s' fs' l k n (record { each = λ p. ap (λ (z : List Entry). (entry_of z p).slot) i; used = λ c. ap (slot_used c) i }) o

pub splice-grows : (xs : List ℕ) (at : ℕ) (ys : List ℕ) → length xs ≤ length (splice xs at ys)
unfolding splice
splice-grows xs at ys = simp (length-append, length-take, length-drop) (omega arith)

appended-grows : (m : List ℕ) (s : State) (p : ℕ) (c : Change) (payload : List ℕ) (f : ℕ) (image : List ℕ)
    → length m ≤ length (appended_memory m s p c payload f image)
unfolding appended_memory
appended-grows m s p c payload f image =
    let r = encode_change (last_number s + 1) (entry_of s.index p).last p c payload in
    omega (
      arith,
      splice-grows m (pending_at (last_number s + 1)) r,
      splice-grows (splice m (pending_at (last_number s + 1)) r)
          (frame_at f) image,
    )

module _ {t : Settings} {b : ℕ} {m : List ℕ} {s : State} {fs : List Figures} (y : Tally t b m s fs) where
  pub tally-appended : (p f : ℕ) (c : Change) (payload image : List ℕ)
      → Tally t b (appended_memory m s p c payload f image) (appended_state s p f) fs
  unfolding appended_state
  tally-appended p f c payload image =
      tally-step y (appended_memory m s p c payload f image) (appended_state s p f) fs (appended-grows m s p c payload f image)
      (preserved-same fs) refl (slots_set s.index p (with_last (entry_of s.index p) (last_number s + 1)) refl) y.pending

  pub tally-forced : (pages p : ℕ) (fs' : List Figures) → Preserved fs fs' → Tally t b m (forced_state s pages p) fs'
  unfolding forced_state
  tally-forced pages p fs' k =
      tally-step y m _ fs' (omega arith) k refl (go (within pages p)) (pending-same b fs fs' k.backups s.note y.pending)
    where
      go : (w : Bool)
          → SlotsStay s.index (cond w (set_entry s.index p (with_durable (entry_of s.index p) (s.durable + 1))) s.index)
      go true = slots_set s.index p (with_durable (entry_of s.index p) (s.durable + 1)) refl
      go false = slots_same s.index

  -- the note is stored
  module _ (n : Note) (lo : 1 ≤ n.page) (hi : n.page ≤ 64) (e : s.note ≡ Some n) where
    abbrev fs' : List Figures
    fs' = set_row fs n.page (one_note (page_row fs n.page))

    counted : is_written n ≡ false → ((page_row fs n.page).backups ≢ 0) × (b ≡ 0)
    counted = rw e at y.pending

    up : (p : ℕ) → (page_row fs p).backups ≤ (page_row (set_row fs n.page (one_note (page_row fs n.page))) p).backups
    up =
        set-each (λ (x z : Figures). x.backups ≤ z.backups) fs n.page (one_note (page_row fs n.page)) (λ x. omega arith) (omega arith)

    stays : is_written n ≡ true → SlotsStay s.index (enter_note s.index n)
    unfolding enter_note
    stays w = slots_set s.index n.page (with_note (entry_of s.index n.page) n) (rw w)

    other : (p : ℕ) → 1 ≤ p → p ≢ n.page → (entry_of (enter_note s.index n) p).slot ≡ (entry_of s.index p).slot
    unfolding enter_note
    other p a q = ap (λ (x : Entry). x.slot) (get_or-set_other s.index (n.page - 1) (p - 1) _ empty_entry (λ u. q (omega arith)))

    noted-covers : (w : Bool) → is_written n ≡ w → Covered (enter_note s.index n) (set_row fs n.page (one_note (page_row fs n.page)))
    noted-covers true w p a c nz z = covered_same s.index fs fs' up y.covered p a c (λ u. nz ((stays w).each p ∙ u)) z
    noted-covers false w p a c nz z = elim (ℕ_discrete p n.page) [
      | yes q ↦ (counted w).0 (let u : (page_row fs n.page).backups ≤ (page_row fs' n.page).backups = up n.page in
          let v : (page_row fs' n.page).backups ≡ 0 = rw q at z in omega arith)
      | no q ↦ covered_same s.index fs fs' up y.covered p a c (λ u. nz (other p a q ∙ u)) z
    ]

    noted-spare : (w : Bool) → is_written n ≡ w → b ≢ 0 → slot_used b (enter_note s.index n) ≡ false
    noted-spare true w nz = (stays w).used b ∙ y.spare nz
    noted-spare false w nz = absurd (nz (counted w).1)

    pub tally-noted : Tally t b m (noted_state s n) (set_row fs n.page (one_note (page_row fs n.page)))
    unfolding noted_state
    tally-noted =
        record {
          frames = y.frames;
          size = length-set fs (n.page - 1) (one_note (page_row fs n.page)) ∙ y.size;
          notes = omega (arith, notes-set fs n.page lo hi y.size (one_note (page_row fs n.page)), y.notes);
          covered = noted-covers (is_written n) refl;
          spare = noted-spare (is_written n) refl;
          pending = tt;
        }
