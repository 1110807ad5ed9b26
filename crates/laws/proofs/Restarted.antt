-- What a Restart gives is well formed, on every volume of bytes: the counts, and the entry of each page as `Settled` has it.
use mathlib.Core.Path.{◌≡◌, refl, sym, ◌∙◌}
use mathlib.Core.Bool.{true, cond, not}
use mathlib.Core.List.{List, [], ◌∷◌}
use Prim.Native.Nat.{ℕ, suc, ◌-◌, ◌≤◌, ◌<◌}
use native.Mathlib.Omega.{arith}
use lib.Dec.{eqb}
use lib.ListN.{length, replicate, length-map, length-replicate}
use borrow.Author.Tests.{eqb-true, eqb-false, not-false}
use Rattle.laws.proofs.Tables.{by_cases, none-at}
use Rattle.laws.proofs.Fields.{bytes-part, field_below}
use Rattle.laws.proofs.Places.{valid-facts}
use Rattle.laws.proofs.Ring.{highest-le}
use Rattle.laws.proofs.Frames.{RowFits, EntryFits, fits-row, page-fits, forms}
use Rattle.laws.proofs.Tabulated.{replicate-at}
use Rattle.laws.proofs.Checksums.{run-most}
use Rattle.laws.proofs.Noted.{notes-length}
use Rattle.laws.proofs.Settled.{written_low, page-settles, row-past}
use Rattle.model.specs.Tables.{Row, first_of}
use Rattle.model.specs.Bytes.{field, part, Octets}
use Rattle.model.specs.Geometry.{Place, record_at, note_at, start, width, item, top_number, most, most_notes, geometry_of, valid_volume}
use Rattle.model.specs.Index.{empty_entry, empty_index, entry_row, settled}
use Rattle.model.specs.Scan.{Section, count_in, log_slots, note_slots, durable_count, valid_log, note_count, first_note}
use Rattle.model.specs.Scan.{note_index, valid_notes, index_of}
use Rattle.model.specs.State.{frame_count, valid_memory, zero_state, empty_frame, pending_note_fits, page_fits, well_formed}
use Rattle.model.specs.Refusals.{restart_rows}
use Rattle.model.specs.Outcome.{decided}
use Rattle.model.specs.Restart.{restart_state, restart_of}
use Rattle.model.specs.Demand1.{Arrays}
use Rattle.model.specs.WellFormed.{GivesWellFormed}
use Rattle.model.specs.declared.{geometry.Geometry.Geometry, state.Entry.Entry, state.Frame.Frame}
use Rattle.model.specs.declared.{state.State.State}
use Rattle.model.specs.Types.{None}

-- ---- the counts

number-top : (v : List ℕ) → Octets v → (g : Geometry) (at : Place) → field 4 0 (item g v at) ≤ top_number
unfolding item
number-top v o g at =
    let b = field_below 4 0 (part v (start g at) (width at)) (bytes-part v (start g at) (width at) o) in omega (arith, b)

count_most : (v : List ℕ) (s : Section) → ((i : ℕ) → field 4 0 (s.slot i) ≤ top_number) → count_in v s ≤ cond s.ring top_number s.slots
unfolding count_in
count_most v s top =
    by_cases s.ring (λ t. rw t (highest-le s.size s.slot top_number s.slots (λ i b u. top (suc i))))
    (λ t. rw t (run-most s.size v s.slots s.at))

module _ (g : Geometry) (v : List ℕ) (o : Octets v) where
  durable-most : durable_count g v ≤ most g
  unfolding durable_count
  durable-most = count_most v (log_slots g v) (λ i. number-top v o g (record_at i))

  notes-most : note_count g v ≤ most_notes g
  unfolding note_count
  notes-most = count_most v (note_slots g v) (λ i. number-top v o g (note_at i))

-- ---- a state with no frame in use and nothing pending

abbrev idle_state : ℕ → ℕ → List Entry → State
idle_state durable notes index =
    record { durable = durable; pending = 0; notes = notes; note = None; frames = replicate 16 empty_frame; index = index }

idle-row : (g : Geometry) (frames durable notes : ℕ) (index : List Entry) (i : ℕ)
    → RowFits g frames (idle_state durable notes index) i
idle-row g frames durable notes index i =
    let e = replicate-at 16 i empty_frame in
    record {
      high = rw e (omega arith);
      once = λ nz. absurd (nz (rw e));
      some = λ nz. absurd (nz (rw e));
      idle = λ z. rw e;
      inside = λ nz. absurd (nz (rw e));
    }

idle-formed : (g : Geometry) (frames durable notes : ℕ) (index : List Entry) → durable ≤ most g → notes ≤ most_notes g
    → ((i : ℕ) → i < 64 → page_fits g (idle_state durable notes index) i ≡ true)
    → well_formed g frames (idle_state durable notes index) ≡ true
unfolding pending_note_fits
idle-formed g frames durable notes index a b fit =
    let s = idle_state durable notes index in
    forms g frames s (record {
      room = omega (arith, a);
      few = omega arith;
      notes = b;
      note = refl;
      table = λ i l. fits-row g frames s i (idle-row g frames durable notes index i);
      pages = fit;
    })

-- ---- Restart

module _ (v : List ℕ) (o : Octets v) (ok : valid_volume v ≡ true) (log : valid_log (geometry_of v) v ≡ true)
    (notes : valid_notes (geometry_of v) v ≡ true) where
  abbrev g : Geometry
  g = geometry_of v

  abbrev s : State
  s = idle_state (durable_count g v) (note_count g v) (index_of g v)

  few-pages : g.pages ≤ 64
  few-pages = (valid-facts v ok).p-high

  entry-ok : (i : ℕ) → i < g.pages → EntryFits g s (suc i) (entry_row (index_of g v) i)
  entry-ok i b =
      let z : suc i - 1 ≡ i = omega arith in
      let x = rw z at (page-settles g v few-pages log notes (suc i) (omega arith)) in
      let w = written_low g v notes i (omega (arith, few-pages)) in
      record {
        numbers = record {
          last = omega (arith, x.high);
          durable = omega (arith, x.same);
          count = omega (arith, x.same, x.high);
          written = omega (arith, x.same, w);
          backup = omega (arith, x.same, x.backup);
          slot = x.slot;
        };
        away = λ t. sym x.same;
      }

  page-ok : (i : ℕ) → i < 64 → page_fits g s i ≡ true
  page-ok i b = page-fits g s i (entry-ok i) (λ past. rw (row-past g v few-pages log notes i past))

  restarted-formed : (frames : ℕ) → well_formed g frames s ≡ true
  restarted-formed frames = idle-formed g frames (durable_count g v) (note_count g v) (index_of g v) (durable-most g v o)
      (notes-most g v o) page-ok

  restarted-arrays : Arrays s
  restarted-arrays =
      let k = note_count g v in
      let f = first_note g v k in
      record {
        frames = length-replicate {A = Frame} 16 empty_frame;
        index = length-map (note_index g v f (suc k - f)) settled ∙ notes-length g v f (suc k - f);
      }

-- ---- refused, it gives zeros

zero-entry : (g : Geometry) (s : State) (p : ℕ) → EntryFits g s p empty_entry
zero-entry g s p =
    record {
      numbers = record {
        last = omega arith;
        durable = omega arith;
        count = omega arith;
        written = omega arith;
        backup = omega arith;
        slot = omega arith;
      };
      away = λ t. refl;
    }

zero-formed : (g : Geometry) (frames : ℕ) → well_formed g frames zero_state ≡ true
unfolding zero_state empty_index
zero-formed g frames =
    let s = idle_state 0 0 (replicate 64 empty_entry) in
    idle-formed g frames 0 0 (replicate 64 empty_entry) (omega arith) (omega arith)
    (λ i b. let e = replicate-at 64 i empty_entry in page-fits g s i (λ l. rw e (zero-entry g s (suc i))) (λ past. rw e))

zero-arrays : Arrays zero_state
unfolding zero_state empty_index
zero-arrays = record { frames = length-replicate {A = Frame} 16 empty_frame; index = length-replicate {A = Entry} 64 empty_entry }

pub gives-well-formed : GivesWellFormed
unfolding restart_of decided restart_rows restart_state
gives-well-formed v m o =
    let rows : List Row = (not (valid_volume v), 1) ∷ (not (valid_memory (length m)), 2)
    ∷ (not (valid_log (geometry_of v) v), 17) ∷ (not (valid_notes (geometry_of v) v), 18) ∷ [] in
    by_cases (eqb (first_of rows) 0)
    (λ t.
    let none = none-at rows (eqb-false 1 0 refl, (eqb-false 2 0 refl, (eqb-false 17 0 refl, (eqb-false 18 0 refl, tt))))
    (eqb-true (first_of rows) 0 t) in
    let ok = not-false _ (none 0) in
    let log = not-false _ (none 2) in
    let notes = not-false _ (none 3) in
    record {
      arrays = rw t (restarted-arrays v o ok log notes);
      state = rw t (restarted-formed v o ok log notes (frame_count (length m)));
    })
    (λ t. record { arrays = rw t zero-arrays; state = rw t (zero-formed (geometry_of v) (frame_count (length m))) })
