-- What a call that mending names stores: nothing, an image in a slot outside the index, or its page's own image. So the
-- volume that it leaves, done or cut, has the same log, the same notes and the same index.
use mathlib.Core.Path.{◌≡◌, refl, ap}
use mathlib.Core.Bool.{Bool, true, false, not, ◌&&◌}
use mathlib.Core.List.{List}
use Prim.Native.Nat.{ℕ, ◌+◌, ◌≤◌}
use native.Mathlib.Omega.{arith}
use lib.ListN.{length, drop}
use lib.Dec.{eqb}
use borrow.Author.Tests.{eqb-true}
use Rattle.laws.proofs.Tables.{by_cases, and_left}
use Rattle.laws.proofs.Parts.{drop-from, drop_past}
use Rattle.laws.proofs.Scans.{index-of-same}
use Rattle.model.specs.Tables.{first_of}
use Rattle.model.specs.Bytes.{splice}
use Rattle.model.specs.Checksum.{seal_image}
use Rattle.model.specs.Geometry.{Place, page_at, slot_at, record_at, geometry_of, store, start}
use Rattle.model.specs.Index.{slot_used}
use Rattle.model.specs.Scan.{index_of}
use Rattle.model.specs.State.{frame_bytes, holder}
use Rattle.model.specs.Refusals.{load_rows, change_rows, write_rows, backup_rows}
use Rattle.model.specs.Outcome.{StoredItem, nothing, one_item, volume_after, decided}
use Rattle.model.specs.Effects.{backup_done, change_done, load_done, write_outcome}
use Rattle.model.specs.Calls.{Call, outcome_of, no_payload}
use Rattle.model.specs.AbstractLog.{Logged, Left, old, new, torn}
use Rattle.model.specs.History.{item_sealed, left_volume, torn_fits}
use Rattle.model.specs.declared.{change.Change.TheVariants.Put, geometry.Geometry.Geometry, state.State.State}
use Rattle.model.specs.declared.command.Command.TheVariants.{Backup}
use Rattle.history.proofs.Context.{Ctx, geo}
use Rattle.history.proofs.Images.{sealed-size}
use Rattle.history.proofs.Persists.{writes as asked, backs as backed}
use Rattle.history.proofs.Sections.{Volume, volume-size, volume-store}
use Rattle.upkeep_policy.specs.Upkeep.{free_slot}
use Rattle.upkeep_theory.proofs.Shape.{Renewal, loads, backs, writes, puts}

-- ---- an image that is stored leaves the log, the notes and the index

pub log-stays : (g : Geometry) (v : List ℕ) → Volume g v → (at : Place) (xs : List ℕ) → length xs ≡ 256
    → start g at + 256 ≤ start g (record_at 1) → drop (start g (record_at 1)) (store g v at xs) ≡ drop (start g (record_at 1)) v
unfolding store
log-stays g v vol at xs five fits =
    drop-from (start g at + length xs) (start g (record_at 1)) (splice v (start g at) xs) v (omega arith)
    (drop_past v (start g at) xs (omega (arith, volume-size g v vol)))

pub index_stays : (g : Geometry) (v : List ℕ) → Volume g v → (at : Place) (xs : List ℕ) → length xs ≡ 256
    → start g at + 256 ≤ start g (record_at 1) → index_of g (store g v at xs) ≡ index_of g v
index_stays g v vol at xs five fits = index-of-same g v (store g v at xs) (log-stays g v vol at xs five fits)

-- ---- what the call stores

pub data Stored (g : Geometry) (s : State) (p : ℕ) (written : Bool) (i : StoredItem) : Type 0 where
  none : i ≡ nothing → Stored g s p written i
  backup : (b : ℕ) (xs : List ℕ) → 1 ≤ b → b ≤ g.slots → slot_used b s.index ≡ false → length xs ≡ 256
      → i ≡ one_item (slot_at b) xs → Stored g s p written i
  own : written ≡ true → (xs : List ℕ) → 1 ≤ p → p ≤ g.pages → length xs ≡ 256
      → i ≡ one_item (page_at p) xs → Stored g s p written i

module _ {C : Type 0} {g : Geometry} {v m : List ℕ} {past : List StoredItem} {s : State} {k w : List Logged}
    (x : Ctx C g v m past s k w) (r p : ℕ) (written : Bool) where
  pub renewal-stored : (c : Call) → Renewal v m s r p written c → Stored g s p written (outcome_of c v m s).stored
  unfolding decided load_done change_done write_outcome backup_done
  renewal-stored c (loads h n e) =
      rw e (by_cases (eqb (first_of (load_rows v m s p r)) 0) (λ t. rw t (none refl)) (λ t. rw t (none refl)))
  renewal-stored c (backs h t l n e) = rw e (go (free_slot (geometry_of v) s))
    where
      go : (b : ℕ) → Stored g s p written (outcome_of (Backup p b, no_payload) v m s).stored
      go b = by_cases (eqb (first_of (backup_rows v m s p b)) 0)
          (λ t.
          let y = backed x p b (eqb-true _ 0 t) in
          rw (t, geo x) (backup b (seal_image g (frame_bytes m (holder s p))) y.slot-low y.slot-high y.spare
          (sealed-size x p y.frame-of y.forced-to) refl))
          (λ t. rw t (none refl))
  renewal-stored c (writes h t d n e) = rw e (by_cases (eqb (first_of (write_rows v m s p)) 0)
      (λ u.
      let y = asked x p (eqb-true _ 0 u) in let fo = y.frame-of in
      rw (u, d, geo x) (own t (seal_image g (frame_bytes m (holder s p))) fo.framed.low fo.framed.high
      (sealed-size x p fo (y.ready d).2) refl))
      (λ u. rw u (none refl)))
  renewal-stored c (puts h t d n e) =
      rw e (by_cases (eqb (first_of (change_rows v m s p (Put 0 1))) 0) (λ u. rw u (none refl)) (λ u. rw u (none refl)))

-- ---- the volume after it, done (left new) or cut

pub data Leaves (g : Geometry) (v : List ℕ) (s : State) (p : ℕ) (written : Bool) (v' : List ℕ) : Type 0 where
  same : v' ≡ v → Leaves g v s p written v'
  slot : (b : ℕ) (xs : List ℕ) → 1 ≤ b → b ≤ g.slots → slot_used b s.index ≡ false → length xs ≡ 256
      → v' ≡ store g v (slot_at b) xs → Leaves g v s p written v'
  page : written ≡ true → (xs : List ℕ) → 1 ≤ p → p ≤ g.pages → length xs ≡ 256
      → v' ≡ store g v (page_at p) xs → Leaves g v s p written v'

module _ (g : Geometry) (v : List ℕ) (is : geometry_of v ≡ g) (s : State) (p : ℕ) (written : Bool) where
  torn-size : (at : Place) (ys : List ℕ) → (eqb (length ys) 256 && not (item_sealed (geometry_of v) at ys)) ≡ true
      → length ys ≡ 256
  torn-size at ys t =
      eqb-true (length ys) 256 (and_left (eqb (length ys) 256) (not (item_sealed (geometry_of v) at ys)) t)

  pub stored-leaves : (i : StoredItem) → Stored g s p written i → (l : Left) → torn_fits (geometry_of v) i l ≡ true
      → Leaves g v s p written (left_volume v i l)
  unfolding volume_after
  stored-leaves i st old t = same refl
  stored-leaves i (none e) new t = rw e (same refl)
  stored-leaves i (backup b xs lo hi u n e) new t = rw (e, is) (slot b xs lo hi u n refl)
  stored-leaves i (own y xs lo hi n e) new t = rw (e, is) (page y xs lo hi n refl)
  stored-leaves i (none e) (torn ys) t = rw e (same refl)
  stored-leaves i (backup b xs lo hi u n e) (torn ys) t =
      rw (e, is) (slot b ys lo hi u (torn-size (slot_at b) ys (rw e at t)) refl)
  stored-leaves i (own y xs lo hi n e) (torn ys) t =
      rw (e, is) (page y ys lo hi (torn-size (page_at p) ys (rw e at t)) refl)

module _ (g : Geometry) (v : List ℕ) (vol : Volume g v) (s : State) (p : ℕ) (written : Bool) (v' : List ℕ) where
  pub leaves-log : Leaves g v s p written v' → drop (start g (record_at 1)) v' ≡ drop (start g (record_at 1)) v
  leaves-log (same e) = ap (drop (start g (record_at 1))) e
  leaves-log (slot b xs lo hi u n e) = rw e (log-stays g v vol (slot_at b) xs n (omega arith))
  leaves-log (page y xs lo hi n e) = rw e (log-stays g v vol (page_at p) xs n (omega arith))

  pub leaves-geo : Leaves g v s p written v' → geometry_of v' ≡ g
  leaves-geo (same e) = rw e vol.geo
  leaves-geo (slot b xs lo hi u n e) = rw e (volume-store g v vol (slot_at b) xs (lo, hi) n).geo
  leaves-geo (page y xs lo hi n e) = rw e (volume-store g v vol (page_at p) xs (lo, hi) n).geo

  pub leaves-index : Leaves g v s p written v' → index_of g v' ≡ index_of g v
  leaves-index y = index-of-same g v v' (leaves-log y)
