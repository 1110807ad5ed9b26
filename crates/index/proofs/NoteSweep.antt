-- Laws of the one pass over the notes: places, a note's fields, the record that it names, and one note more.
use mathlib.Core.Path.{◌≡◌, refl, sym, ap, ◌∙◌, subst}
use mathlib.Core.Bool.{Bool, true, false, ◌&&◌, ◌||◌, not}
use mathlib.Core.List.{List, [], ◌∷◌}
use Prim.Native.Nat.{ℕ, ◌+◌, ◌-◌, ◌*◌, ◌/◌, ◌%◌, ◌≤◌, ◌<◌}
use native.Mathlib.Nat.{mod-lt, mod-eq_of_lt, mod-add-mod, mod-eq-sub-mod}
use native.Mathlib.Omega.{arith}
use native.Mathlib.Decide.{dec_lt}
use lib.Dec.{eqb, leb, ltb}
use lib.ListN.{get_or}
use borrow.Author.Tests.{eqb-true, lt-ltb, le-leb, eq-eqb, ne_eqb}
use Rattle.laws.proofs.Tables.{by_cases, and_right, or_left, or_right, all-holds, when_false, within-bounds, within-holds}
use Rattle.laws.proofs.Fields.{field-add, field-one, field_below, field-part}
use Rattle.model.specs.Tables.{within}
use Rattle.model.specs.Bytes.{field, part}
use Rattle.model.specs.Checksum.{sealed}
use Rattle.model.specs.Geometry.{ring, note_at, log_slot, note_slot, start, item}
use Rattle.model.specs.Item.{record_of, note_of, note_layout}
use Rattle.model.specs.Index.{with_note}
use Rattle.model.specs.Scan.{log_record, durable_count, first_held}
use Rattle.model.specs.declared.geometry.Geometry.{Geometry}
use Rattle.model.specs.declared.item.Note.{Note}
use Rattle.section.specs.Sweep.{begun_of}
use Rattle.log_scan.specs.Rows.{row_of}
use Rattle.index_rows.specs.declared.columns.Columns.{Columns}
use Rattle.index_rows.specs.Columns.{earlier_row, slot_in}
use Rattle.index.specs.NotesPassed.{Names, Belongs, Follows, BackedUp, with_entered}
use Rattle.index.specs.NoteSection.{note_after, note_agrees}
use Rattle.log_scan.specs.LogSwept.{LogCounts}
use Rattle.log_scan.proofs.RowLaws.{row_is}
use Rattle.index.proofs.NotePass.{Entered, entered-more}

-- ---- places

-- the slot d numbers on from that of x, of L, before and behind the turn
turned_on : (x d L : ℕ) → x % L + d < L → (x + d) % L ≡ x % L + d
turned_on x d L h = sym (mod-add-mod x L d) ∙ mod-eq_of_lt h

turned-back : (x d L : ℕ) → 1 ≤ L → d ≤ L → L ≤ x % L + d → (x + d) % L ≡ x % L + d - L
turned-back x d L some few h =
    let m : x % L < L = mod-lt x some in
    sym (mod-add-mod x L d) ∙ mod-eq-sub-mod h ∙ mod-eq_of_lt (omega arith)

-- where number n is, of slots of 64 bytes, counted from number f on: before the turn, and behind it
module _ (at L f n from stop : ℕ) (some : 1 ≤ f) (low : f ≤ n) (high : n < f + L) (ef : from ≡ at + 64 * ((f - 1) % L)) (es : stop ≡ at + 64 * L) where
  apart : f - 1 + (n - f) ≡ n - 1
  apart = omega arith

  pub near-on : from + 64 * (n - f) < stop → from + 64 * (n - f) ≡ at + 64 * ((n - 1) % L)
  near-on h =
      let t : (n - 1) % L ≡ (f - 1) % L + (n - f) = ap (λ (x : ℕ). x % L) (sym apart) ∙ turned_on (f - 1) (n - f) L (omega arith) in
      omega arith

  pub near-back : stop ≤ from + 64 * (n - f) → from + 64 * (n - f) - (stop - at) ≡ at + 64 * ((n - 1) % L)
  near-back h =
      let t : (n - 1) % L ≡ (f - 1) % L + (n - f) - L =
      ap (λ (x : ℕ). x % L) (sym apart) ∙ turned-back (f - 1) (n - f) L (omega arith) (omega arith) (omega arith) in
      omega arith

-- where the number behind n is, of slots of 16 bytes
pub next-is : (at L n from end stop r : ℕ) → 1 ≤ n → 1 ≤ L → from ≡ at + 16 * ((n - 1) % L) → end ≡ from + 16 → stop ≡ at + 16 * L
    → (end ≡ stop → r ≡ at) × ((end ≡ stop → ⊥) → r ≡ end) → r ≡ at + 16 * ((n + 1 - 1) % L)
next-is at L n from end stop r low some ef ee es step =
    let q : n - 1 + 1 ≡ n + 1 - 1 = omega arith in
    let m : (n - 1) % L < L = mod-lt (n - 1) some in
    elim (dec_lt ((n - 1) % L + 1) L) [
      | yes y ↦ let t : (n + 1 - 1) % L ≡ (n - 1) % L + 1 = ap (λ (x : ℕ). x % L) (sym q) ∙ turned_on (n - 1) 1 L y in
          omega (arith, step.1 (λ z. omega arith))
      | no z ↦ let t : (n + 1 - 1) % L ≡ (n - 1) % L + 1 - L =
          ap (λ (x : ℕ). x % L) (sym q) ∙ turned-back (n - 1) 1 L some some (omega arith) in
          omega (arith, step.0 (omega arith))
    ]

-- note n, read at its place
pub note-read : (g : Geometry) (v : List ℕ) (n from : ℕ) → from ≡ start g (note_at 1) + 16 * ((n - 1) % g.notes)
    → part v from 16 ≡ item g v (note_slot g n)
unfolding item
note-read g v n from e =
    let q : from ≡ start g (note_slot g n) = omega arith in
    ap (λ (x : ℕ). part v x 16) q

-- ---- a note's fields

-- page, kind and slot of the number that they make
module _ (r : List ℕ) (b : (i : ℕ) → get_or r i 0 < 256) (v : ℕ) (ev : v ≡ field 4 4 r) where
  parts : v ≡ field 2 4 r + 65536 * (get_or r 6 0 + 256 * get_or r 7 0)
  parts = omega (arith, field-add 2 2 4 r, field-add 1 1 6 r, field-one 6 r, field-one 7 r)

  page-part : v % 65536 ≡ field 2 4 r
  page-part = omega (arith, parts, field_below 2 4 r b)

  kind-part : v / 65536 % 256 ≡ get_or r 6 0
  kind-part = omega (arith, parts, field_below 2 4 r b, b 6)

  slot-part : v / 16777216 ≡ get_or r 7 0
  slot-part = omega (arith, parts, field_below 2 4 r b, b 6)

  pub fields-are : (a c : ℕ) → a ≡ field 4 0 r → c ≡ field 4 8 r
      → ◌≡◌ {A = Note} (record { number = a; page = v % 65536; kind = v / 65536 % 256; slot = v / 16777216; lsn = c }) (note_of r)
  unfolding note_of
  fields-are a c ea ec = λ i. record { number = ea i; page = page-part i; kind = kind-part i; slot = slot-part i; lsn = ec i }

-- ---- the record that a note names

module _ (g : Geometry) (v : List ℕ) (f next : ℕ) (h : LogCounts g v f next) (e : Note) (lt : e.lsn < next) where
  known : 1 ≤ e.lsn → within (durable_count g v) e.lsn ≡ true
  known low = within-holds _ _ low (omega (arith, h.count))

  -- below the log's run
  pub names-below : e.lsn < f → 1 ≤ e.lsn → Names g v e
  names-below below low =
      let n = durable_count g v in
      let q : e.lsn < first_held g v n = rw h.first (by_cases {P = e.lsn < begun_of (ring g) f (next - f)} (ring g && eqb (next - f) 0)
      (λ t. absurd (let z : next - f ≡ 0 = eqb-true _ _ (and_right (ring g) (eqb (next - f) 0) t) in
      omega (arith, h.order, h.empty (omega (arith, h.order)))))
      (λ t. subst (λ (x : ℕ). e.lsn < x) (sym (when_false 2 f t)) below)) in
      record { durable = known low; own = or_left _ (lt-ltb _ _ q) }

  -- in it
  pub names_in : f ≤ e.lsn → (k : ℕ) → k ≡ start g (log_slot g e.lsn) → field 2 (k + 8) v ≡ e.page
      → Names g v e
  unfolding record_of item
  names_in low k ek ep =
      let q : start g (log_slot g e.lsn) + 8 ≡ k + 8 = omega arith in
      let p : (log_record g v e.lsn).page ≡ e.page =
      field-part 2 8 64 (start g (log_slot g e.lsn)) v (omega arith) ∙ ap (λ (x : ℕ). field 2 x v) q ∙ ep in
      record { durable = known (omega (arith, h.some)); own = or_right (ltb e.lsn (first_held g v (durable_count g v))) (eq-eqb _ _ p) }

-- ---- a note, entered

module _ (e : Note) (most : ℕ) (c : Columns) where
  abbrev j : ℕ
  j = e.page - 1

  module _ (k : e.kind ≡ 1) where
    is-written : eqb e.kind 1 ≡ true
    is-written = eq-eqb _ _ k

    pub write-follows : e.slot ≡ 0 → get_or c.written j 0 ≤ e.lsn → Follows e most c
    unfolding note_layout
    write-follows z l = record { laid = rw (is-written, eq-eqb _ _ z); after = rw is-written (le-leb _ _ l) }

  module _ (k : e.kind ≡ 2) (d : Columns) (b : BackedUp most j e.slot e.lsn c d) where
    not_written : eqb e.kind 1 ≡ false
    not_written = ne_eqb e.kind 1 (λ q. omega (arith, k, q))

    pub backup-follows : Follows e most c
    unfolding note_layout
    backup-follows =
        record {
          laid = or_right (eqb e.kind 1 && eqb e.slot 0) (eq-eqb _ _ k);
          after = rw not_written (all-holds
              (leb (get_or c.backup j 0) e.lsn ∷ within most e.slot ∷ not (leb 1 e.slot && slot_in e.slot c.slots) ∷ [])
              (b.order, (b.inside, (ap not b.free, tt))));
        }

-- one note more
module _ (g : Geometry) (v : List ℕ) (few : g.pages ≤ 64) (f n : ℕ) (low : f ≤ n) (c : Columns)
    (d : Entered g v f (n - f) c) (r : List ℕ) (er : r ≡ item g v (note_slot g n)) (whole : sealed 12 r ≡ true)
    (e : Note) (ee : e ≡ note_of r) (belongs : Belongs g v e n) (follows : Follows e g.slots c) where
  abbrev used : Bool
  used = leb 1 e.slot && slot_in e.slot c.slots

  abbrev named : Bool
  named = ltb e.lsn (first_held g v (durable_count g v)) || eqb (log_record g v e.lsn).page e.page

  abbrev after : Bool
  after = note_after (earlier_row c (e.page - 1)) e g.slots used

  fits : note_agrees (sealed 12 r) e n g.pages (durable_count g v) named after ≡ true
  fits =
      all-holds
      (sealed 12 r ∷ note_layout e ∷ eqb e.number n ∷ within g.pages e.page ∷ within (durable_count g v) e.lsn
      ∷ named ∷ after ∷ []) (
        whole,
        (
          follows.laid,
          (
            eq-eqb _ _ belongs.number_is,
            (belongs.inside, (belongs.names.durable, (belongs.names.own, (follows.after, tt)))),
          ),
        ),
      )

  row_here : e.page - 1 ≡ row_of e.page
  row_here = sym (row_is e.page (omega (arith, within-bounds g.pages e.page belongs.inside)))

  pub passed-more : (x : Columns) → x ≡ with_entered c e → Entered g v f (n + 1 - f) x
  passed-more x t =
      let q : n - f + 1 ≡ n + 1 - f = omega arith in
      let k : n ≡ f + (n - f) = omega arith in
      let was = earlier_row c (e.page - 1) in
      rw (t, ← q)
      (entered-more g v few f (n - f) c d.same n k r er e ee (e.page - 1) row_here was refl
      (durable_count g v) (first_held g v (durable_count g v)) refl refl (sealed 12 r) used after named
      (note_agrees (sealed 12 r) e n g.pages (durable_count g v) named after) refl refl refl refl refl d fits (with_note was e) refl)
