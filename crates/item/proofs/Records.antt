-- Laws of a log record that is read: its layout from its tests, and its change.
use Prim.Native.Nat.{ℕ, ◌+◌, ◌-◌}
use mathlib.Core.Path.{◌≡◌}
use mathlib.Core.List.{List}
use mathlib.Core.Bool.{Bool, true, ◌&&◌}
use lib.Dec.{eqb}
use Rattle.model.specs.Bytes.{byte_at, part, all_zero}
use Rattle.laws.proofs.Tables.{and_left}
use Rattle.item.proofs.Changes.{Obeys, held-obeys}
use Rattle.model.specs.Change.{change_fits, apply_change}
use Rattle.model.specs.Item.{record_of, record_layout, payload_of, change_in, apply_record}
use Rattle.model.specs.declared.{change.Change.Change, item.LogRecord.LogRecord}

-- its three tests
pub layout_is : (r : List ℕ) (e : LogRecord) (f p : Bool) (y : ℕ) → e ≡ record_of r
    → f ≡ change_fits e.kind e.length e.offset e.fill
    → y ≡ byte_at r 15
    → p ≡ all_zero (part r (16 + e.length) (44 - e.length))
    → (f && (eqb y 0 && p)) ≡ record_layout r
unfolding record_layout
layout_is r e f p y he hf hy hp = rw (hf, hy, hp, he)

-- ---- the change of a record with a right layout

module _ (r : List ℕ) (e : LogRecord) (c : Change) (he : e ≡ record_of r) (hc : c ≡ change_in e) where
  pub layout-obeys : record_layout r ≡ true → Obeys c
  unfolding record_layout
  layout-obeys h =
      let d = record_of r in
      let f : change_fits d.kind d.length d.offset d.fill ≡ true = and_left _ _ h in
      rw (hc, he) (held-obeys d.kind d.length d.offset d.fill f)

  pub replay-is : (b x : List ℕ) → x ≡ apply_change c (payload_of r) b → x ≡ apply_record r b
  unfolding apply_record
  replay-is b x h = rw (h, hc, he)
