-- T3, the frames: a call that upkeep advises leaves every frame but r its page and its body.
use mathlib.Core.Path.{◌≡◌, refl, sym, ap, ◌∙◌}
use mathlib.Core.Logic.{◌≢◌}
use mathlib.Core.Bool.{Bool, true, false}
use mathlib.Core.List.{List, ◌∷◌}
use Prim.Native.Nat.{ℕ, ◌+◌, ◌-◌, ◌≤◌, ◌<◌}
use native.Mathlib.Omega.{arith}
use native.Mathlib.Decide.{ℕ_discrete}
use lib.Dec.{eqb}
use lib.ListN.{length, get_or, set, replicate}
use lib.Seq.{get_or-set_same, get_or-set_other}
use borrow.Author.Tests.{eqb-true}
use Rattle.laws.proofs.Tables.{by_cases}
use Rattle.laws.proofs.Items.{frame_image-length, frame_image-body}
use Rattle.model.specs.Tables.{Row, first_of}
use Rattle.model.specs.Bytes.{bytes_of, byte_at, splice}
use Rattle.model.specs.Checksum.{with_sum}
use Rattle.model.specs.Geometry.{top_number, geometry_of}
use Rattle.model.specs.Change.{apply_change}
use Rattle.model.specs.Item.{image_body, frame_image, encode_change, record_bytes}
use Rattle.model.specs.State.{frame_count, pending_at, frame_at, frame_bytes, frame_of, holder, last_number, empty_frame}
use Rattle.model.specs.Refusals.{page_dirty, load_rows, change_rows, force_rows, write_rows, backup_rows, note_rows}
use Rattle.model.specs.Outcome.{StoredItem, Outcome, decided}
use Rattle.model.specs.Effects.{changed_image, forced_state, note_stored, noted_state, appended_state, appended_memory}
use Rattle.model.specs.Effects.{backup_done, change_done, force_done, load_done, write_outcome}
use Rattle.model.specs.Calls.{Call, outcome_of, no_payload}
use Rattle.model.specs.declared.{change.Change.TheVariants.Put, geometry.Geometry.Geometry, state.Frame.Frame}
use Rattle.model.specs.declared.{state.State.State}
use Rattle.model.specs.declared.command.Command.TheVariants.{Load, Force, Write}
use Rattle.model.specs.declared.command.Command.TheVariants.{Backup, Note}
use Rattle.model.specs.AbstractLog.{Logged}
use Rattle.history.proofs.Logs.{last_of, body_of, last-le}
use Rattle.history.proofs.Leaf.{frame-body, frame-size, frame-changed}
use Rattle.history.proofs.Inv.{Memory}
use Rattle.history.proofs.Memory.{pending-memory, pending-frame, frame_same, frame-other}
use Rattle.history.proofs.Context.{Ctx, passed, in-range, sized, geo, few, body-size, Found, found-frame}
use Rattle.history.proofs.Loads.{loads-above, load-image, loads as loaded}
use Rattle.history.proofs.Reached.{live}
use Rattle.upkeep_policy.specs.Upkeep.{refresh, free_slot}
use Rattle.upkeep_policy.specs.UpkeepClaim.{SameFrame, FramesStay}
use Rattle.upkeep_theory.proofs.Shape.{Renewal, loads, backs, writes, puts, Advised, notes, forces, by_note}
use Rattle.upkeep_theory.proofs.Shape.{by_log, advised}
use Rattle.upkeep_theory.proofs.Text.{put_same, frame_byte, put-found}
use Rattle.model.specs.Types.{PendingNote, None, Some}

module _ (m : List ℕ) (s : State) (f : ℕ) where
  -- memory and frames as they were
  nothing-moves : (s' : State) → s'.frames ≡ s.frames → SameFrame m s m s' f
  nothing-moves s' e = record { page = ap (λ (fs : List Frame). (get_or fs (f - 1) empty_frame).page) e; body = refl }

  by-decided : (rows : List Row) (done : Outcome) → (first_of rows ≡ 0 → SameFrame m s done.memory done.state f)
      → SameFrame m s (decided rows m s done).memory (decided rows m s done).state f
  unfolding decided
  by-decided rows done h =
      by_cases (eqb (first_of rows) 0) (λ t. rw t (h (eqb-true (first_of rows) 0 t))) (λ t. rw t (nothing-moves s refl))

  -- a frame that is set anew, with the page that it had
  page-again : (i p : ℕ) (d : Bool) → (get_or s.frames i empty_frame).page ≡ p → i < length s.frames
      → (get_or (set s.frames i (record { page = p; dirty = d })) (f - 1) empty_frame).page ≡ (frame_of s f).page
  page-again i p d e b = elim (ℕ_discrete (f - 1) i) [
    | yes q ↦ rw (q, get_or-set_same s.frames i (record { page = p; dirty = d }) empty_frame b) (sym e)
    | no n ↦ rw (get_or-set_other s.frames i (f - 1) (record { page = p; dirty = d }) empty_frame n)
  ]

-- a record is added, and a frame gets an image with the body that it had
append-stays : (F : ℕ) (m : List ℕ) (mem : Memory F m) (n : ℕ) (rec : List ℕ) → length rec ≡ 64 → (h : ℕ)
    → 1 ≤ h → h ≤ F
    → (image : List ℕ) → length image ≡ 256 → image_body image ≡ image_body (frame_bytes m h) → (f : ℕ) → 1 ≤ f
    → image_body (frame_bytes (splice (splice m (pending_at n) rec) (frame_at h) image) f) ≡ image_body (frame_bytes m f)
append-stays F m mem n rec z h h1 h2 image y same f lo =
    let mem₁ = pending-memory F m mem n rec z in
    elim (ℕ_discrete f h) [
      | yes q ↦ rw q (ap image_body (frame_same F (splice m (pending_at n) rec) mem₁ h image h1 h2 y) ∙ same)
      | no q ↦ ap image_body (frame-other F (splice m (pending_at n) rec) mem₁ h image h1 h2 y f lo q
          ∙ pending-frame F m mem n rec z f)
    ]

-- the refreshing put's image
pub refreshed : (g : Geometry) (p l n : ℕ) (body X rest : List ℕ) → p ≤ 64 → l ≤ top_number → length body ≡ 244
    → X ≡ frame_image p l body
    → changed_image X n (apply_change (Put 0 1) (byte_at X 8 ∷ rest) (image_body X)) ≡ frame_image p n body
refreshed g p l n body X rest a b c e =
    rw (e, frame-body g p l body a b c, frame_byte p l body (omega arith), put_same body rest (omega arith))
    (frame-changed g p l body a b c n body)

pub put-length : (n l p b : ℕ) → length (encode_change n l p (Put 0 1) (b ∷ replicate 43 0)) ≡ 64
unfolding encode_change record_bytes bytes_of with_sum
put-length n l p b = refl

module _ {C : Type 0} {g : Geometry} {v m : List ℕ} {past : List StoredItem} {s : State} {k w : List Logged}
    (x : Ctx C g v m past s k w) (f : ℕ) (lo : 1 ≤ f) (hi : f ≤ frame_count (length m)) where
  abbrev Stays : Call → Type 0
  Stays c = SameFrame m s (outcome_of c v m s).memory (outcome_of c v m s).state f

  note-stays : Stays (Note, no_payload)
  unfolding decided noted_state
  note-stays = by-decided m s f (note_rows v m s) _ (λ e. go s.note)
    where
      go : (y : PendingNote) → SameFrame m s (note_stored v m s y).memory (note_stored v m s y).state f
      go None = nothing-moves m s f s refl
      go (Some n) = nothing-moves m s f (noted_state s n) refl

  force-stays : Stays (Force, no_payload)
  unfolding decided force_done forced_state
  force-stays = by-decided m s f (force_rows v m s) _ (λ e.
      by_cases (eqb s.pending 0) (λ t. rw t (nothing-moves m s f s refl)) (λ t. rw t (nothing-moves m s f _ refl)))

  backup-stays : (p b : ℕ) → Stays (Backup p b, no_payload)
  unfolding decided backup_done
  backup-stays p b = by-decided m s f (backup_rows v m s p b) _ (λ e. nothing-moves m s f _ refl)

  load-stays : (p r : ℕ) → f ≢ r → Stays (Load p r, no_payload)
  unfolding decided load_done
  load-stays p r ne = by-decided m s f (load_rows v m s p r) _ (λ e.
      let l = loaded x p r e in
      let im = load-image x p l.low l.high l.settled l.some (loads-above x p r e) in
      let sz = frame-size g p (last_of p x.all) (body_of p x.all) (omega (arith, l.high, (sized x).p-high))
      (omega (arith, few x, last-le p x.all (length x.all))) (body-size x p) in
      let rl = l.frame-low in
      record {
        page = ap (λ (y : Frame). y.page) (get_or-set_other s.frames (r - 1) (f - 1) _ empty_frame
            (λ z. ne (omega arith)));
        body = ap image_body
            (rw (geo x, im) (frame-other x.al.F m x.al.memory r _ l.frame-low l.frame-high sz f lo ne));
      })

  module _ (p : ℕ) (d : Found x p) where
    row_is : holder s p - 1 ≡ d.row
    row_is = omega (arith, d.holder-is)

    page-stays : (t : Bool)
        → (get_or (set s.frames (holder s p - 1) (record { page = p; dirty = t })) (f - 1) empty_frame).page
        ≡ (frame_of s f).page
    page-stays t =
        page-again m s f (holder s p - 1) p t (rw row_is d.page-is)
        (omega (arith, row_is, d.in_table, x.al.memory.high, x.al.frames.size))

  write-stays : (p : ℕ) → Stays (Write p, no_payload)
  unfolding decided write_outcome write_rows
  write-stays p = by-decided m s f (write_rows v m s p) _ (λ e.
      by_cases (page_dirty s p)
      (λ t. rw t (
      let u = passed (write_rows v m s p) (omega arith) e in
      let d = found-frame x p (in-range (geometry_of v).pages p u.1.1.1.0).0 u.1.1.1.1.0 in
      record { page = page-stays p d false; body = refl }))
      (λ t. rw t (nothing-moves m s f s refl)))

  put-stays : (p : ℕ) → Stays (refresh m s p)
  unfolding decided change_done appended_state appended_memory
  put-stays p = by-decided m s f (change_rows v m s p (Put 0 1)) _ (λ e.
      let d = put-found x p e in
      let a : p ≤ 64 = omega (arith, d.framed.high, (sized x).p-high) in
      let b : last_of p x.all ≤ top_number = omega (arith, few x, last-le p x.all (length x.all)) in
      let fi = refreshed g p (last_of p x.all) (last_number s + 1) (body_of p x.all) (frame_bytes m (holder s p))
      (replicate 43 0) a b
      (body-size x p) d.framed.frame_is in
      record {
        page = page-stays p d true;
        body = append-stays x.al.F m x.al.memory (last_number s + 1) _ (put-length (last_number s + 1) _ p _)
            (holder s p) (omega (arith, d.holder-is)) (omega (arith, d.holder-is, d.in_table)) _
            (rw fi (frame_image-length p (last_number s + 1) (body_of p x.all) (body-size x p)))
            (rw (fi, d.framed.frame_is, frame-body g p (last_of p x.all) (body_of p x.all) a b (body-size x p))
            (frame_image-body p (last_number s + 1) (body_of p x.all) (body-size x p))) f lo;
      })

  pub renewal-stays : (r p : ℕ) (written : Bool) (c : Call) → f ≢ r → Renewal v m s r p written c → Stays c
  renewal-stays r p written c ne (loads h n e) = rw e (load-stays p r ne)
  renewal-stays r p written c ne (backs h t b n e) = rw e (backup-stays p (free_slot (geometry_of v) s))
  renewal-stays r p written c ne (writes h t d n e) = rw e (write-stays p)
  renewal-stays r p written c ne (puts h t d n e) = rw e (put-stays p)

  pub advice-stays : (r : ℕ) (c : Call) → f ≢ r → Advised v m s r c → Stays c
  advice-stays r c ne (notes a e) = rw e note-stays
  advice-stays r c ne (forces a b e) = rw e force-stays
  advice-stays r c ne (by_note a z o i lo hi t n) = renewal-stays r _ _ c ne n
  advice-stays r c ne (by_log a z o n1 n2 i lo hi t fi n) = renewal-stays r _ _ c ne n

pub frames-stay : FramesStay
frames-stay h legal m s e r c a f lo hi ne = advice-stays (live h legal m s e) f lo hi r c ne (advised _ m s r c a)
