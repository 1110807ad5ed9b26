-- Demand 1, proved from the outcome definitions: refused exactly by the table, a refusal changes nothing, at most one item is stored.
use mathlib.Core.Path.{◌≡◌, refl, sym, ap, ◌∙◌}
use mathlib.Core.Logic.{◌≢◌, inl, inr}
use mathlib.Core.Bool.{true, ◌&&◌, not}
use mathlib.Core.List.{List, [], ◌∷◌}
use Prim.Native.Nat.{ℕ, ◌+◌, ◌-◌, ◌≤◌}
use native.Mathlib.Nat.{mod-lt}
use native.Mathlib.Omega.{arith}
use lib.Dec.{eqb, ltb}
use lib.ListN.{length}
use borrow.Author.Tests.{eqb-true, eqb-false, ne_eqb, not-false, ltb-true}
use Rattle.laws.proofs.Tables.{Numbered, none-at, when_false, by_cases, within-bounds}
use Rattle.laws.proofs.Places.{valid-facts, item-length}
use Rattle.laws.proofs.Items.{seal_image-length}
use Rattle.laws.proofs.Carry.{image-in, image-place}
use Rattle.laws.proofs.Notes.{note-length}
use Rattle.laws.proofs.WellFormed.{formed-note, Ready, ready, ready-behind, pending-length, frame-length, holder-low, holder-within}
use Rattle.laws.proofs.Decided.{by-table, stores, stored-within, at_most_one, KeepsBy, keeps-by, numbered-state, either}
use Rattle.model.specs.Tables.{Row, first_of, within}
use Rattle.model.specs.Checksum.{seal_image}
use Rattle.model.specs.Item.{note_bytes}
use Rattle.model.specs.Geometry.{tag_of, carry_tag, headed, page_at, slot_at, log_slot, note_slot, geometry_of, valid_volume}
use Rattle.model.specs.Geometry.{valid_counts, length_for, item}
use Rattle.model.specs.State.{frame_count, frame_bytes, pending_bytes, holder, held, note_pending, notes_full, zero_state, pending_note_fits}
use Rattle.model.specs.Refusals.{page_dirty, make_rows, restart_rows, begin_rows, load_rows, change_rows, force_rows}
use Rattle.model.specs.Refusals.{write_rows, backup_rows, release_rows, note_rows, start_carry_rows, restamp_rows}
use Rattle.model.specs.Refusals.{finish_carry_rows, inspect_rows}
use Rattle.laws.proofs.Conditions.{not_durable}
use Rattle.model.specs.Index.{slot_used}
use Rattle.model.specs.Passes.{image_count, image_place, first_old, old_left}
use Rattle.model.specs.Outcome.{nothing, refusal_of, decided}
use Rattle.model.specs.Effects.{note_stored, backup_done, begin_done, change_done, force_done, load_done, release_done, restamp_done, write_outcome}
use Rattle.model.specs.Calls.{begin_of, load_of, change_call, force_of, write_of, backup_of, release_of, note_call}
use Rattle.model.specs.Calls.{start_carry_of, restamp_of, finish_carry_of, Call, rows_of, outcome_of}
use Rattle.model.specs.Restart.{restart_of, make_of, inspect_of, Made, Inspected}
use Rattle.model.specs.declared.{geometry.Heading.Heading, geometry.Heading.TheVariants.First, change.Change.Change}
use Rattle.model.specs.declared.{state.State.State}
use Rattle.model.specs.declared.command.Command.TheVariants.{Begin, Load, Force, Write, Release, StartCarry, Restamp, FinishCarry}
use Rattle.model.specs.declared.command.Command.TheVariants.{Change as ChangeCall, Backup, Note}
use Rattle.model.specs.Demand1.{ByTable, StoresItem, Keeps, Arrays, Demand1}
use Rattle.model.specs.Types.{PendingNote, None, Some}

-- ---- the calls that store nothing

begin-keeps : (v m : List ℕ) (s : State) (page frame fill : ℕ) → KeepsBy (begin_rows v m s page frame) v m s (begin_of v m s page frame fill)
unfolding decided begin_done begin_rows
begin-keeps v m s page frame fill =
    let own : Numbered (begin_rows v m s page frame) = (
      eqb-false 1 0 refl,
      (
        eqb-false 2 0 refl,
        (
          eqb-false 2 0 refl,
          (
            eqb-false 3 0 refl,
            (eqb-false 4 0 refl, (eqb-false 9 0 refl, (eqb-false 10 0 refl, (eqb-false 11 0 refl, (eqb-false 12 0 refl, tt))))),
          ),
        ),
      ),
    ) in
    keeps-by _ v m s _ own refl (λ _. tt)

load-keeps : (v m : List ℕ) (s : State) (page frame : ℕ) → KeepsBy (load_rows v m s page frame) v m s (load_of v m s page frame)
unfolding decided load_done load_rows
load-keeps v m s page frame =
    let own : Numbered (load_rows v m s page frame) = (
      eqb-false 1 0 refl,
      (
        eqb-false 2 0 refl,
        (
          eqb-false 2 0 refl,
          (
            eqb-false 3 0 refl,
            (
              eqb-false 4 0 refl,
              (eqb-false 7 0 refl, (eqb-false 9 0 refl, (eqb-false 10 0 refl, (eqb-false 19 0 refl, (eqb-false 23 0 refl, tt))))),
            ),
          ),
        ),
      ),
    ) in
    keeps-by _ v m s _ own refl (λ _. tt)

change-keeps : (v m : List ℕ) (s : State) (page : ℕ) (c : Change) (payload : List ℕ)
    → KeepsBy (change_rows v m s page c) v m s (change_call v m s page c payload)
unfolding decided change_done change_rows
change-keeps v m s page c payload =
    let own : Numbered (change_rows v m s page c) = (
      eqb-false 1 0 refl,
      (
        eqb-false 2 0 refl,
        (
          eqb-false 2 0 refl,
          (eqb-false 3 0 refl, (eqb-false 6 0 refl, (eqb-false 8 0 refl, (eqb-false 11 0 refl, (eqb-false 12 0 refl, tt))))),
        ),
      ),
    ) in
    keeps-by _ v m s _ own refl (λ _. tt)

release-keeps : (v m : List ℕ) (s : State) (page : ℕ) → KeepsBy (release_rows v m s page) v m s (release_of v m s page)
unfolding decided release_done release_rows
release-keeps v m s page =
    let own : Numbered (release_rows v m s page) = (
      eqb-false 1 0 refl,
      (eqb-false 2 0 refl, (eqb-false 2 0 refl, (eqb-false 3 0 refl, (eqb-false 8 0 refl, (eqb-false 10 0 refl, tt))))),
    ) in
    keeps-by _ v m s _ own refl (λ _. tt)

-- ---- the calls that store an item

force-keeps : (v m : List ℕ) (s : State) → KeepsBy (force_rows v m s) v m s (force_of v m s)
unfolding decided force_done force_rows
force-keeps v m s =
    keeps-by _ v m s _ (numbered-state v m s [] tt)
    (either (eqb s.pending 0) _ _ (λ o. refusal_of o.answer ≡ 0) (λ _. refl) (λ _. refl))
    (λ h.
    let r = ready v m s [] h in
    let w = r.state in
    either (eqb s.pending 0) _ _ (λ o. StoresItem v o.stored) (λ _. tt)
    (λ f.
    let ne : s.pending ≢ 0 = eqb-false _ _ f in
    stored-within v r.volume (log_slot (geometry_of v) (s.durable + 1)) (pending_bytes m (s.durable + 1))
    (omega arith, mod-lt (s.durable + 1 - 1) (valid-facts v r.volume).l-low)
    (pending-length m r.memory (s.durable + 1))))

-- page p's frame, as Write and Backup store it
image-length : (v m : List ℕ) (s : State) (rows : List Row) → Ready v m s rows → Arrays s → (p : ℕ) → 1 ≤ p → held s p ≡ true
    → length (seal_image (geometry_of v) (frame_bytes m (holder s p))) ≡ 256
image-length v m s rows r a p one h =
    seal_image-length (geometry_of v) (frame_bytes m (holder s p))
    (frame-length m r.memory (holder s p) (holder-low (geometry_of v) (frame_count (length m)) s r.state a.frames p h)
    (holder-within (geometry_of v) (frame_count (length m)) s r.state a.frames p h one))

write_keeps : (v m : List ℕ) (s : State) (page : ℕ) → Arrays s → KeepsBy (write_rows v m s page) v m s (write_of v m s page)
unfolding decided write_outcome write_rows
write_keeps v m s page a =
    let g = geometry_of v in
    let d = page_dirty s page in
    let rest : List Row = (not (within g.pages page), 3) ∷ (not (held s page), 8) ∷ (d && note_pending s.note, 13)
    ∷ (d && notes_full g v s, 14) ∷ (d && not_durable m s page, 15) ∷ [] in
    let own : Numbered rest =
    (eqb-false 3 0 refl, (eqb-false 8 0 refl, (eqb-false 13 0 refl, (eqb-false 14 0 refl, (eqb-false 15 0 refl, tt))))) in
    keeps-by _ v m s _ (numbered-state v m s rest own)
    (either (page_dirty s page) _ _ (λ o. refusal_of o.answer ≡ 0) (λ _. refl) (λ _. refl))
    (λ h.
    let r = ready v m s rest h in
    let none = none-at rest own r.rest in
    let w = within-bounds g.pages page (not-false _ (none 0)) in
    either (page_dirty s page) _ _ (λ o. StoresItem v o.stored)
    (λ _. stored-within v r.volume (page_at page) (seal_image g (frame_bytes m (holder s page))) w
    (image-length v m s rest r a page w.0 (not-false _ (none 1))))
    (λ _. tt))

backup-keeps : (v m : List ℕ) (s : State) (page slot : ℕ) → Arrays s → KeepsBy (backup_rows v m s page slot) v m s (backup_of v m s page slot)
unfolding decided backup_done backup_rows
backup-keeps v m s page slot a =
    let g = geometry_of v in
    let rest : List Row = (not (within g.pages page), 3) ∷ (not (within g.slots slot), 5) ∷ (not (held s page), 8)
    ∷ (note_pending s.note, 13)
    ∷ (notes_full g v s, 14) ∷ (not_durable m s page, 15) ∷ (slot_used slot s.index, 16) ∷ [] in
    let own : Numbered rest = (
      eqb-false 3 0 refl,
      (
        eqb-false 5 0 refl,
        (eqb-false 8 0 refl, (eqb-false 13 0 refl, (eqb-false 14 0 refl, (eqb-false 15 0 refl, (eqb-false 16 0 refl, tt))))),
      ),
    ) in
    keeps-by _ v m s _ (numbered-state v m s rest own) refl
    (λ h.
    let r = ready v m s rest h in
    let none = none-at rest own r.rest in
    let w = within-bounds g.pages page (not-false _ (none 0)) in
    stored-within v r.volume (slot_at slot) (seal_image g (frame_bytes m (holder s page)))
    (within-bounds g.slots slot (not-false _ (none 1)))
    (image-length v m s rest r a page w.0 (not-false _ (none 2))))

note-stored-accepts : (v m : List ℕ) (s : State) (n : PendingNote) → refusal_of (note_stored v m s n).answer ≡ 0
note-stored-accepts v m s None = refl
note-stored-accepts v m s (Some n) = refl

note-stored-one : (v m : List ℕ) (s : State) → valid_volume v ≡ true
    → (n : PendingNote) → pending_note_fits (geometry_of v) s.notes s.durable n ≡ true
    → StoresItem v (note_stored v m s n).stored
note-stored-one v m s ok None h = tt
note-stored-one v m s ok (Some n) h =
    let f = formed-note (geometry_of v) s.notes s.durable n h in
    stored-within v ok (note_slot (geometry_of v) (s.notes + 1)) (note_bytes n)
    (omega arith, mod-lt (s.notes + 1 - 1) f.slots) (note-length n)

note-keeps : (v m : List ℕ) (s : State) → KeepsBy (note_rows v m s) v m s (note_call v m s)
unfolding decided note_rows
note-keeps v m s =
    keeps-by _ v m s _ (numbered-state v m s [] tt) (note-stored-accepts v m s s.note)
    (λ h. let r = ready v m s [] h in note-stored-one v m s r.volume s.note r.state.note)

-- ---- the calls that carry a volume over

start-keeps : (v m : List ℕ) (s : State) → KeepsBy (start_carry_rows v m s) v m s (start_carry_of v m s)
unfolding decided start_carry_rows
start-keeps v m s =
    keeps-by _ v m s _ (eqb-false 1 0 refl, numbered-state v m s [] tt) refl
    (λ h. ((ready-behind (not (headed (tag_of First) v)) v m s [] h).1.volume, inl refl))

finish-keeps : (v m : List ℕ) (s : State) → KeepsBy (finish_carry_rows v m s) v m s (finish_carry_of v m s)
unfolding decided finish_carry_rows
finish-keeps v m s =
    let rest : List Row = (old_left (geometry_of v) v s.index, 20) ∷ [] in
    keeps-by _ v m s _ (eqb-false 1 0 refl, numbered-state v m s rest (eqb-false 20 0 refl, tt)) refl
    (λ h. ((ready-behind (not (headed carry_tag v)) v m s rest h).1.volume, inr refl))

restamp-keeps : (v m : List ℕ) (s : State) → KeepsBy (restamp_rows v m s) v m s (restamp_of v m s)
unfolding decided restamp_done restamp_rows
restamp-keeps v m s =
    let g = geometry_of v in
    let i = first_old g v s.index in
    let at = image_place g i in
    keeps-by _ v m s _ (eqb-false 1 0 refl, numbered-state v m s [] tt)
    (either (ltb i (image_count g)) _ _ (λ o. refusal_of o.answer ≡ 0) (λ _. refl) (λ _. refl))
    (λ h.
    let r = (ready-behind (not (headed carry_tag v)) v m s [] h).1 in
    either (ltb i (image_count g)) _ _ (λ o. StoresItem v o.stored)
    (λ t.
    let q = image-place g at (image-in g i (ltb-true i (image_count g) t)) in
    let n : length (item g v at) ≡ 256 = item-length g v (valid-facts v r.volume).size at q.0 ∙ q.1 in
    stored-within v r.volume at (seal_image g (item g v at)) q.0 (seal_image-length g (item g v at) n ∙ sym q.1))
    (λ _. tt))

-- ---- the whole

keeps : {c : Call} {v m : List ℕ} {s : State} → KeepsBy (rows_of c v m s) v m s (outcome_of c v m s) → Keeps c v m s
keeps {c} {v} {m} {s} k = record {
  table = k.table;
  state = k.state;
  memory = k.memory;
  volume = k.volume;
  stored = k.stored;
  one_item = at_most_one v _ k.stored;
}

pub call-keeps : (c : Call) (v m : List ℕ) (s : State) → Arrays s → KeepsBy (rows_of c v m s) v m s (outcome_of c v m s)
call-keeps (Begin page frame fill, _) v m s a = begin-keeps v m s page frame fill
call-keeps (Load page frame, _) v m s a = load-keeps v m s page frame
call-keeps (ChangeCall page c, payload) v m s a = change-keeps v m s page c payload
call-keeps (Force, _) v m s a = force-keeps v m s
call-keeps (Write page, _) v m s a = write_keeps v m s page a
call-keeps (Backup page slot, _) v m s a = backup-keeps v m s page slot a
call-keeps (Release page, _) v m s a = release-keeps v m s page
call-keeps (Note, _) v m s a = note-keeps v m s
call-keeps (StartCarry, _) v m s a = start-keeps v m s
call-keeps (Restamp, _) v m s a = restamp-keeps v m s
call-keeps (FinishCarry, _) v m s a = finish-keeps v m s

make-keeps : (h : Heading) (v : List ℕ) (p b l n : ℕ) → ByTable (make_rows v p b l n) (refusal_of (make_of h v p b l n).answer)
    × (refusal_of (make_of h v p b l n).answer ≢ 0 → (make_of h v p b l n).volume ≡ v)
unfolding make_of make_rows
make-keeps h v p b l n =
    let rows : List Row = (not (valid_counts p b l n && eqb (length v) (length_for p b l n)), 1) ∷ [] in
    let e : refusal_of (make_of h v p b l n).answer ≡ first_of rows =
    by_cases (eqb (first_of rows) 0) (λ t. rw t (sym (eqb-true _ _ t))) (λ t. rw t) in (
      by-table rows (eqb-false 1 0 refl, tt) _ e,
      λ h. ap (λ (o : Made). o.volume) (when_false _ _ (ne_eqb (first_of rows) 0 (λ z. h (e ∙ z)))),
    )

restart-keeps : (v m : List ℕ)
    → ByTable (restart_rows v m) (refusal_of (restart_of v m).answer)
    × (refusal_of (restart_of v m).answer ≢ 0 → ((restart_of v m).state ≡ zero_state) × ((restart_of v m).memory ≡ m))
    × ((restart_of v m).stored ≡ nothing)
unfolding restart_of decided restart_rows
restart-keeps v m =
    let own : Numbered (restart_rows v m) = (eqb-false 1 0 refl, (eqb-false 2 0 refl, (eqb-false 17 0 refl, (eqb-false 18 0 refl, tt)))) in
    let k = keeps-by (restart_rows v m) v m zero_state _ own refl (λ _. tt) in
    (k.table, λ h. (k.state h, k.memory h), stores (restart_rows v m) m zero_state _ refl (λ x. x ≡ nothing) refl (λ _. refl))

numbered-inspect : (v : List ℕ) (page size : ℕ) → Numbered (inspect_rows v page size)
unfolding inspect_rows
numbered-inspect v page size = (
  eqb-false 1 0 refl,
  (eqb-false 2 0 refl, (eqb-false 3 0 refl, (eqb-false 17 0 refl, (eqb-false 18 0 refl, (eqb-false 7 0 refl, (eqb-false 23 0 refl, tt)))))),
)

inspect-keeps : (v : List ℕ) (page : ℕ) (buffer : List ℕ)
    → ByTable (inspect_rows v page (length buffer)) (refusal_of (inspect_of v page buffer).answer)
    × (refusal_of (inspect_of v page buffer).answer ≢ 0 → (inspect_of v page buffer).buffer ≡ buffer)
unfolding inspect_of
inspect-keeps v page buffer =
    let no = first_of (inspect_rows v page (length buffer)) in
    let e : refusal_of (inspect_of v page buffer).answer ≡ no = by_cases (eqb no 0) (λ t. rw t (sym (eqb-true _ _ t))) (λ t. rw t) in (
      by-table (inspect_rows v page (length buffer)) (numbered-inspect v page (length buffer)) _ e,
      λ h. ap (λ (o : Inspected). o.buffer) (when_false _ _ (ne_eqb no 0 (λ z. h (e ∙ z)))),
    )

pub demand1 : Demand1
demand1 = record { calls = λ c v m s a. keeps (call-keeps c v m s a); make = make-keeps; restart = restart-keeps; inspect = inspect-keeps }
