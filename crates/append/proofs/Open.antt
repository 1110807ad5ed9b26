-- What is known once Begin or Change is not refused: the page, its frame, the numbers and the room in the memory.
use mathlib.Core.Path.{◌≡◌, refl}
use mathlib.Core.Bool.{true, false}
use mathlib.Core.List.{List}
use Prim.Native.Nat.{ℕ, ◌+◌, ◌≤◌, ◌<◌}
use native.Mathlib.Omega.{arith}
use lib.Dec.{leb}
use lib.ListN.{length, get_or}
use borrow.Author.Tests.{leb-false, eqb-false, not-false}
use Rattle.laws.proofs.Tables.{or-neither, none-at, within-bounds}
use Rattle.laws.proofs.Places.{valid-facts}
use Rattle.laws.proofs.WellFormed.{Ready, ready, holder-low, holder-within, frame-within}
use Rattle.state.proofs.Slots.{most-high}
use Rattle.model.specs.Tables.{Row, first_of, within}
use Rattle.model.specs.Geometry.{most, geometry_of}
use Rattle.model.specs.Change.{fits}
use Rattle.model.specs.State.{frame_count, frame_at, last_number, log_full, holder, held}
use Rattle.model.specs.Refusals.{begin_rows, change_rows, begin_tail, change_tail}
use Rattle.model.specs.declared.{change.Change.Change, state.State.State}

pub record Open (m : List ℕ) (s : State) (page frame : ℕ) : Type 0 where
  pub page-low : 1 ≤ page
  pub page-high : page ≤ 64
  pub frame-low : 1 ≤ frame
  pub frame-high : frame ≤ 16
  pub last : last_number s < 4294967295
  pub pending : s.pending ≤ 16
  pub records : 1024 ≤ length m
  pub room : frame_at frame + 256 ≤ length m

-- from the rows that both calls have
opened : (v m : List ℕ) (s : State) (rows : List Row) (page frame : ℕ) → Ready v m s rows
    → within (geometry_of v).pages page ≡ true
    → log_full (geometry_of v) v s ≡ false
    → 1 ≤ frame → frame ≤ frame_count (length m) → Open m s page frame
unfolding log_full
opened v m s rows page frame k hp hl low high =
    let f = valid-facts v k.volume in
    let w = within-bounds (geometry_of v).pages page hp in
    let l : last_number s < most (geometry_of v) = leb-false _ _ (or-neither (leb (most (geometry_of v)) (last_number s)) _ hl).0 in
    record {
      page-low = w.0;
      page-high = omega (arith, w.1, f.p-high);
      frame-low = low;
      frame-high = omega (arith, high, k.memory.high);
      last = omega (arith, l, most-high v (geometry_of v) k.volume refl);
      pending = k.state.few;
      records = omega (arith, k.memory.size);
      room = frame-within m k.memory frame low high;
    }

pub begin-open : (v m : List ℕ) (s : State) (page frame : ℕ) → first_of (begin_rows v m s page frame) ≡ 0 → Open m s page frame
unfolding begin_rows
begin-open v m s page frame h =
    let rows = begin_tail (geometry_of v) v (frame_count (length m)) s page frame in
    let k = ready v m s rows h in
    let at : (i : ℕ) → (get_or rows i (false, 0)).0 ≡ false =
    none-at rows (
      eqb-false 3 0 refl,
      (eqb-false 4 0 refl, (eqb-false 9 0 refl, (eqb-false 10 0 refl, (eqb-false 11 0 refl, (eqb-false 12 0 refl, tt))))),
    ) k.rest in
    let w = within-bounds (frame_count (length m)) frame (not-false _ (at 1)) in
    opened v m s rows page frame k (not-false _ (at 0)) (at 5) w.0 w.1

-- Change's frame is the one that holds the page
module _ (v m : List ℕ) (s : State) (page : ℕ) (c : Change) (h : first_of (change_rows v m s page c) ≡ 0) where
  rows : List Row
  rows = change_tail (geometry_of v) v s page c

  let_through : Ready v m s rows
  unfolding change_rows rows
  let_through = ready v m s rows h

  none : (i : ℕ) → (get_or rows i (false, 0)).0 ≡ false
  unfolding rows
  none =
      none-at (change_tail (geometry_of v) v s page c)
      (eqb-false 3 0 refl, (eqb-false 6 0 refl, (eqb-false 8 0 refl, (eqb-false 11 0 refl, (eqb-false 12 0 refl, tt))))) let_through.rest

  pub change-fits : fits c ≡ true
  unfolding rows
  change-fits = not-false _ (none 1)

  pub change-open : length s.frames ≡ 16 → Open m s page (holder s page)
  unfolding rows
  change-open sixteen =
      let k = let_through in
      let p : within (geometry_of v).pages page ≡ true = not-false _ (none 0) in
      let at : held s page ≡ true = not-false _ (none 2) in
      let one = (within-bounds (geometry_of v).pages page p).0 in
      let g = geometry_of v in
      let f = frame_count (length m) in
      opened v m s rows page (holder s page) k p (none 4) (holder-low g f s k.state sixteen page at)
      (holder-within g f s k.state sixteen page at one)
