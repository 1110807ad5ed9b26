-- ME2: after mending's Backup and its note the page stands.
use mathlib.Core.Path.{◌≡◌, refl, sym, ap, ◌∙◌, subst}
use mathlib.Core.Bool.{Bool, true, false}
use mathlib.Core.List.{List, [], ◌∷◌}
use Prim.Native.Nat.{ℕ, ◌+◌, ◌≤◌}
use Rattle.laws.proofs.Tables.{true-not-false}
use Rattle.laws.proofs.Notes.{note-length}
use Rattle.model.specs.Tables.{first_of}
use Rattle.model.specs.Checksum.{seal_image}
use Rattle.model.specs.Geometry.{geometry_of}
use Rattle.model.specs.Item.{image_lsn, note_bytes, is_written}
use Rattle.model.specs.State.{frame_bytes, holder}
use Rattle.model.specs.Refusals.{backup_rows, note_rows}
use Rattle.model.specs.Outcome.{StoredItem, volume_after, decided}
use Rattle.model.specs.Effects.{backup_done, noted_state}
use Rattle.model.specs.Calls.{Call, outcome_of, rows_of, no_payload, is_call}
use Rattle.model.specs.AbstractLog.{Logged}
use Rattle.model.specs.History.{Power, on, Machine, perform, call_in, allowed, step}
use Rattle.model.specs.Claim.{History, Legal, fresh, reached}
use Rattle.model.specs.declared.{geometry.Geometry.Geometry, item.Note.Note, state.State.State}
use Rattle.model.specs.declared.command.Command.TheVariants.{Backup, Note as NoteCall}
use Rattle.history.proofs.Disk.{Copy}
use Rattle.history.proofs.Images.{sealed-valid, sealed-lsn, sealed-size}
use Rattle.history.proofs.Persists.{backs as backed, note-store}
use Rattle.history.proofs.Stores.{slot_same}
use Rattle.history.proofs.Context.{Ctx, geo}
use Rattle.history.proofs.Reached.{present, live}
use Rattle.history.proofs.Refusals.{call-refusal, own_rows, rows_are}
use Rattle.upkeep_policy.specs.Upkeep.{free_slot}
use Rattle.upkeep_policy.specs.UpkeepClaim.{extended}
use Rattle.upkeep_theory.proofs.Comes.{renewal-fits, may-come}
use Rattle.upkeep_theory.proofs.Shape.{Renewal, loads, backs, writes, puts}
use Rattle.mend_policy.specs.MendClaim.{BackupMends}
use Rattle.mend_theory.proofs.Backups.{Kept, new-backup, note-slots}
use Rattle.mend_theory.proofs.Two.{kept-stands}
use Rattle.mend_theory.proofs.Named.{named, mend-is-done}
use Rattle.mend_theory.proofs.Follows.{allowed-more, call-leaves, by-power}
use Rattle.mend_theory.proofs.Stored.{leaves-geo}
use Rattle.mend_theory.proofs.Rests.{called}
use Rattle.mend_theory.proofs.Risks.{after_one}
use Rattle.model.specs.Types.{PendingNote, None, Some}

-- ---- the Backup

-- a backup note of page p is owed, and its slot holds the copy
pub record Owing (g : Geometry) (p : ℕ) (v : List ℕ) (y : PendingNote) : Type 0 where
  pub note : Note
  pub is-owed : y ≡ Some note
  pub is-backup : is_written note ≡ false
  pub page-is : note.page ≡ p
  pub copy : Copy g v p note.slot note.lsn

module _ {C : Type 0} {g : Geometry} {v m : List ℕ} {past : List StoredItem} {s : State} {k w : List Logged}
    (x : Ctx C g v m past s k w) (p : ℕ) where
  backup-owes : (b : ℕ) → first_of (backup_rows v m s p b) ≡ 0
      → Owing g p (volume_after v (outcome_of (Backup p b, no_payload) v m s).stored) (outcome_of (Backup p b, no_payload) v m s).state.note
  unfolding decided backup_done volume_after
  backup-owes b e =
      let y = backed x p b e in let fo = y.frame-of in
      let five = sealed-size x p fo y.forced-to in
      rw (e, geo x) (record {
        note = record { number = s.notes + 1; page = p; kind = 2; slot = b; lsn = image_lsn (frame_bytes m (holder s p)) };
        is-owed = refl;
        is-backup = refl;
        page-is = refl;
        copy = rw (slot_same g v k x.hs x.ns x.no b (seal_image g (frame_bytes m (holder s p))) y.slot-low y.slot-high five)
            (sealed-valid x p fo y.forced-to, sealed-lsn x p fo y.forced-to);
      })

  pub renewal-owes : (r : ℕ) (written : Bool) (c : Call) → Renewal v m s r p written c → is_call 8 c ≡ true
      → first_of (rows_of c v m s) ≡ 0
      → Owing g p (volume_after v (outcome_of c v m s).stored) (outcome_of c v m s).state.note
  renewal-owes r written c (loads h n e) t z = absurd (true-not-false (rw e at t) refl)
  renewal-owes r written c (backs h u b n e) t z = rw e (backup-owes (free_slot (geometry_of v) s) (rw e at z))
  renewal-owes r written c (writes h u d n e) t z = absurd (true-not-false (rw e at t) refl)
  renewal-owes r written c (puts h u d n e) t z = absurd (true-not-false (rw e at t) refl)

  -- ---- its Note

  note-stands : (lo : 1 ≤ p) (hi : p ≤ g.pages) → Owing g p v s.note
      → Kept g p (volume_after v (outcome_of (NoteCall, no_payload) v m s).stored)
      × ((outcome_of (NoteCall, no_payload) v m s).state.note ≡ None)
      × (geometry_of (volume_after v (outcome_of (NoteCall, no_payload) v m s).stored) ≡ g)
  unfolding decided own_rows noted_state volume_after
  note-stands lo hi y =
      let n = y.note in
      let t = rw y.is-owed at x.al.note-ok in
      let st = note-store x n t in
      let e : first_of (note_rows v m s) ≡ 0 = rows_are x (NoteCall, no_payload) in
      rw (e, y.is-owed, geo x) (
        new-backup g p lo hi x n t y.is-backup y.page-is y.copy _ st.holds' st.noted'
            (note-slots g p lo hi x (note_bytes n) (note-length n) t.3.0),
        refl,
        st.holds'.vol.geo,
      )

-- ---- the claim

-- one call more
pub call-legal : (h : History) → Legal h → (m : List ℕ) (s : State) → (reached h).power ≡ on m s → (c : Call)
    → ((past : List StoredItem) → allowed (record { volume = (reached h).volume; power = on m s; past = past }) (perform c) ≡ true)
    → Legal (extended h (perform c ∷ []))
unfolding reached
call-legal h legal m s e c t =
    let w = reached h in
    record {
      make = legal.make;
      events = allowed-more (perform c) h.events (fresh h) legal.events
          (by-power w.volume w.power w.past m s e (λ (u : Machine). allowed u (perform c) ≡ true) (t w.past));
    }

pub call-volume : (h : History) (m : List ℕ) (s : State) → (reached h).power ≡ on m s → (c : Call)
    → (reached (extended h (perform c ∷ []))).volume ≡ volume_after (reached h).volume (outcome_of c (reached h).volume m s).stored
unfolding step
call-volume h m s e c =
    ap (λ (u : Machine). u.volume) (after_one h (perform c))
    ∙ ap (λ (y : Power). (call_in y (reached h).volume c (reached h).past).volume) e

pub backup-mends : BackupMends
backup-mends h legal m s e r fr rests p lo hi c n is =
    let v = (reached h).volume in
    let x = live h legal m s e in
    let a = named v m s r p c n in
    let rows : first_of (rows_of c v m s) ≡ 0 =
    sym (call-refusal c v m s) ∙ (mend-is-done h legal m s e r fr rests p lo hi c n).done in
    let o = renewal-owes x p r a.written c a.is-renewal is rows in
    let fits = renewal-fits v m s r p a.written c a.is-renewal in
    let k1 = extended h (perform c ∷ []) in
    let l1 : Legal k1 = call-legal h legal m s e c (λ past. (may-come v m past s c fits.0 fits.1).0) in
    let m1 = (outcome_of c v m s).memory in
    let s1 = (outcome_of c v m s).state in
    let e1 : (reached k1).power ≡ on m1 s1 = called h m s e c in
    let x1 = live k1 l1 m1 s1 e1 in
    let v1-is : (reached k1).volume ≡ volume_after v (outcome_of c v m s).stored = call-volume h m s e c in
    let same : present k1 ≡ present h = sym (geo x1) ∙ (ap geometry_of v1-is
    ∙ leaves-geo (present h) v x.hs.vol s p a.written _ (call-leaves x r p a.written c a.is-renewal)) in
    let o1 : Owing (present k1) p (reached k1).volume s1.note =
    subst (λ (g : Geometry). Owing g p (reached k1).volume s1.note) (sym same)
    (subst (λ (u : List ℕ). Owing (present h) p u s1.note) (sym v1-is) o) in
    let y = note-stands x1 p lo hi o1 in
    let e2 = called k1 m1 s1 e1 (NoteCall, no_payload) in
    let v2 = call-volume k1 m1 s1 e1 (NoteCall, no_payload) in (
      call-legal k1 l1 m1 s1 e1 (NoteCall, no_payload)
          (λ past. (may-come (reached k1).volume m1 past s1 (NoteCall, no_payload) refl refl).0),
      rw (e2, y.1) refl,
      rw v2 (kept-stands (present k1) p _ y.2 y.0),
    )
