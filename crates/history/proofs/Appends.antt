-- Begin, Change and Load keep the invariant.
use mathlib.Core.Path.{◌≡◌, refl, sym, ap, ◌∙◌}
use mathlib.Core.Logic.{◌≢◌}
use mathlib.Core.Bool.{true, false}
use mathlib.Core.List.{List, [], ◌∷◌, ◌++◌}
use Prim.Native.Nat.{ℕ, suc, ◌+◌, ◌-◌, ◌%◌, ◌≤◌, ◌<◌}
use native.Mathlib.Omega.{arith}
use lib.ListN.{length, take, replicate}
use lib.Dec.{eqb}
use borrow.Author.Tests.{eqb-true, eqb-false, not-false}
use Rattle.laws.proofs.Ring.{displaced-more}
use Rattle.laws.proofs.Changes.{apply-length, apply-take, fits-facts}
use Rattle.model.specs.Tables.{first_of}
use Rattle.model.specs.Bytes.{splice}
use Rattle.model.specs.Geometry.{top_number, most, geometry_of}
use Rattle.model.specs.Change.{kind_of, length_of, offset_of, fill_of, change_fits, fits, apply_change}
use Rattle.model.specs.Item.{image_body, frame_image, encode_change}
use Rattle.model.specs.Index.{entry_of}
use Rattle.model.specs.State.{pending_at, pending_bytes, frame_at, frame_bytes, holder, last_number, frame_count, blank, log_full}
use Rattle.model.specs.Refusals.{begin_rows, change_rows}
use Rattle.model.specs.Outcome.{StoredItem, nothing, volume_after}
use Rattle.model.specs.Effects.{appended_state, appended_memory, changed_image}
use Rattle.model.specs.AbstractLog.{Logged, logged_change}
use Rattle.model.specs.declared.{geometry.Geometry.Geometry, change.Change.Change, answer.Answer.Answer}
use Rattle.model.specs.declared.{answer.Answer.TheVariants.Done, state.State.State}
use Rattle.model.specs.declared.change.Change.TheVariants.{Format}
use lib.Seq.{length-take-le}
use Rattle.history.proofs.Logs.{last_of, body_of, last-le, len_a, number-hit, number-miss, body-hit, body-miss, last-append}
use Rattle.history.proofs.Leaf.{encode-take, frame-body, frame-size, frame-changed}
use Rattle.history.proofs.Records.{rec_of, rec_of-new, rec_of-is}
use Rattle.history.proofs.Sections.{most-high}
use Rattle.history.proofs.Disk.{Spare}
use Rattle.history.proofs.Asked.{log-room, log-asked}
use Rattle.history.proofs.Inv.{past-cons, Settled, frame, Memory}
use Rattle.history.proofs.Memory.{frame-count, pending-memory, pending-same, pending-other, pending-frame}
use Rattle.history.proofs.Memory.{frame-memory, frame_same, frame-other, frame-pending}
use Rattle.history.proofs.LogSteps.{Joins, joins-fair, log-add, index-add}
use Rattle.history.proofs.FrameSteps.{frames-put}
use Rattle.history.proofs.Context.{Ctx, Preserved, passed, in-range, sized, geo, len, sum, few, body-size}
use Rattle.history.proofs.Context.{last_entry, found-frame, unblocked}

module _ {C : Type 0} {g : Geometry} {v m : List ℕ} {past : List StoredItem} {s : State} {k w : List Logged}
    (x : Ctx C g v m past s k w) where
  -- the number that is given next
  next-is : last_number s + 1 ≡ suc (length x.all)
  next-is = omega (arith, sum x)

  -- a change of a page in frame f
  module _ (c : Logged) (f : ℕ) (payload image : List ℕ) (f₁ : 1 ≤ f) (f₂ : f ≤ x.al.F) (j : Joins g.pages x.all c)
      (free : eqb s.pending 16 ≡ false) (room : log_full g v s ≡ false) (same : take (length_of c.change) payload ≡ c.bytes)
      (image-is : image ≡ frame_image c.page (suc (length x.all))
      (apply_change c.change c.bytes (body_of c.page x.all))) where
    less : length w < 16
    less = let ne : s.pending ≢ 16 = eqb-false s.pending 16 free in omega (arith, x.al.log.few, x.al.log.pending-is)

    roomy : length x.all < most g
    roomy = log-room x room

    rec : List ℕ
    rec = encode_change (last_number s + 1) (entry_of s.index c.page).last c.page c.change payload

    rec-is : rec ≡ rec_of (x.all ++ (c ∷ [])) (length x.all)
    unfolding rec
    rec-is =
        encode-take (last_number s + 1) (entry_of s.index c.page).last c.page c.change payload
        ∙ rw (same, next-is) (rec_of-new x.all c (entry_of s.index c.page).last (last_entry x c.page j.low j.high))

    rec-size : length rec ≡ 64
    rec-size = rw rec-is (rec_of-is g.pages (x.all ++ (c ∷ [])) (length x.all) (sized x).p-high
        (omega (arith, roomy, most-high g (sized x))) (joins-fair g.pages x.all c j)).size

    body-size' : length (apply_change c.change c.bytes (body_of c.page x.all)) ≡ 244
    body-size' = apply-length c.change c.bytes (body_of c.page x.all) j.fit (omega (arith, j.whole)) (body-size x c.page)

    image-size : length image ≡ 256
    image-size =
        rw image-is (frame-size g c.page (suc (length x.all)) (apply_change c.change c.bytes (body_of c.page x.all))
        (omega (arith, j.high, (sized x).p-high)) (omega (arith, roomy, most-high g (sized x))) body-size')

    m₁ : List ℕ
    m₁ = splice m (pending_at (last_number s + 1)) rec

    mem₁ : Memory x.al.F m₁
    unfolding m₁
    mem₁ = pending-memory x.al.F m x.al.memory (last_number s + 1) rec rec-size

    m₂ : List ℕ
    m₂ = splice m₁ (frame_at f) image

    mem₂ : Memory x.al.F m₂
    unfolding m₂
    mem₂ = frame-memory x.al.F m₁ mem₁ f image f₁ f₂ image-size

    pending-new : pending_bytes m₂ (suc (length x.all)) ≡ rec_of (x.all ++ (c ∷ [])) (length x.all)
    unfolding m₁ m₂
    pending-new =
        frame-pending x.al.F m₁ mem₁ f image f₁ f₂ image-size (suc (length x.all))
        ∙ (rw (← next-is) (pending-same x.al.F m x.al.memory (last_number s + 1) rec rec-size) ∙ rec-is)

    pending-old : (i : ℕ) → length k ≤ i → i < length x.all → pending_bytes m₂ (suc i) ≡ pending_bytes m (suc i)
    unfolding m₁ m₂
    pending-old i a b =
        let ne : (suc i - 1) % 16 ≢ (last_number s + 1 - 1) % 16 = omega (arith, len x, less, sum x) in
        frame-pending x.al.F m₁ mem₁ f image f₁ f₂ image-size (suc i)
        ∙ pending-other x.al.F m x.al.memory (last_number s + 1) rec rec-size (suc i) ne

    frame-new : frame_bytes m₂ f ≡ image
    unfolding m₂
    frame-new = frame_same x.al.F m₁ mem₁ f image f₁ f₂ image-size

    frame-old : (i : ℕ) → i < x.al.F → i ≢ f - 1 → frame_bytes m₂ (suc i) ≡ frame_bytes m (suc i)
    unfolding m₁ m₂
    frame-old i b ne =
        frame-other x.al.F m₁ mem₁ f image f₁ f₂ image-size (suc i) (omega arith) (omega arith)
        ∙ pending-frame x.al.F m x.al.memory (last_number s + 1) rec rec-size (suc i)

    keep-add : (an : Answer)
        → ((i : ℕ) → i < x.al.F → i ≢ f - 1 → (frame s.frames i).page ≢ c.page)
        → ((frame s.frames (f - 1)).page ≢ 0 → (frame s.frames (f - 1)).page ≢ c.page
        → Settled x.all (length k) (frame s.frames (f - 1)).page)
        → Preserved C g v past (record {
          answer = an;
          state = appended_state s c.page f;
          memory = appended_memory m s c.page c.change payload f image;
          stored = nothing;
        })
        (record { durable = k; pending = w ++ (c ∷ []) })
    unfolding volume_after appended_state appended_memory rec m₁ m₂
    keep-add an alone leaves =
        record {
          ns = x.ns;
          holds = x.hs;
          noted = x.no;
          past-ok = past-cons g k past nothing tt x.ps;
          live = (
            x.all ++ (c ∷ []),
            record {
              F = x.al.F;
              memory = mem₂;
              log = log-add g m s.durable s.pending k w x.all x.al.log m₂ c j less roomy pending-new pending-old;
              frames = frames-put g.pages x.al.F x.all (length k) s.frames m x.al.frames x.al.memory.high
                  (x.all ++ (c ∷ [])) m₂ (f - 1) c.page true
                  (omega arith)
                  (record {
                    low = j.low;
                    high = j.high;
                    some = rw (number-hit x.all c) (omega arith);
                    frame_is = let e : suc (f - 1) ≡ f = omega arith in
                        rw (e, number-hit x.all c, body-hit x.all c) (frame-new ∙ image-is);
                  })
                  frame-old
                  (λ q ne. (
                    number-miss x.all c q ne,
                    body-miss x.all c q ne,
                    last-append q x.all (c ∷ []) (length k) (omega (arith, len x)),
                  ))
                  alone leaves;
              index = index-add s.index x.all (length k) x.ns (length x.ns) x.al.index c (last_number s + 1) j.low
                  (omega (arith, j.high, (sized x).p-high)) (omega (arith, len x)) next-is;
              displaced = rw (len_a x.all c) (displaced-more g.records (length k) (length x.all) (Spare k x.ns) (Spare k x.ns)
                  (λ i b z. z) x.al.displaced (log-asked x room));
              notes-is = x.al.notes-is;
              note-ok = x.al.note-ok;
            },
          );
        }

  -- ---- Begin

  pub keep-begin : (page f fill : ℕ) → first_of (begin_rows v m s page f) ≡ 0
      → Preserved C g v past (record {
        answer = Done;
        state = appended_state s page f;
        memory = appended_memory m s page (Format fill) [] f (frame_image page (last_number s + 1) (replicate 244 fill));
        stored = nothing;
      }) (record { durable = k; pending = w ++ (logged_change page (Format fill) [] ∷ []) })
  unfolding begin_rows change_fits apply_change
  keep-begin page f fill e =
      let t = passed (begin_rows v m s page f) (omega arith) e in
      let r : (1 ≤ page) × (page ≤ g.pages) = rw (geo x) at (in-range (geometry_of v).pages page t.1.1.1.0) in
      let q : (1 ≤ f) × (f ≤ x.al.F) =
      rw (frame-count x.al.F m x.al.memory) at (in-range (frame_count (length m)) f t.1.1.1.1.0) in
      let none : last_of page x.all ≡ 0 = sym (last_entry x page r.0 r.1)
      ∙ eqb-true (entry_of s.index page).last 0 (not-false (blank s page) t.1.1.1.1.1.0) in
      let full : log_full g v s ≡ false = rw (geo x) at t.1.1.1.1.1.1.1.1.0 in
      keep-add (logged_change page (Format fill) []) f [] (frame_image page (last_number s + 1) (replicate 244 fill)) q.0 q.1
      (record { low = r.0; high = r.1; fit = refl; whole = refl; first = λ z. refl })
      t.1.1.1.1.1.1.1.0 full refl (ap (λ (n : ℕ). frame_image page n (replicate 244 fill)) next-is) Done
      (λ i c ne y.
      let fr = x.al.frames.each i c (λ z. omega arith) in
      let n : last_of (frame s.frames i).page x.all ≡ 0 = rw y none in
      omega (arith, fr.some))
      (λ nz ne. unblocked x f q.0 q.1 t.1.1.1.1.1.1.0 nz)

  -- ---- Change

  pub keep-change : (page : ℕ) (c : Change) (payload : List ℕ) → length payload ≡ 44 → first_of (change_rows v m s page c) ≡ 0
      → Preserved C g v past (record {
        answer = Done;
        state = appended_state s page (holder s page);
        memory = appended_memory m s page c payload (holder s page)
            (changed_image (frame_bytes m (holder s page)) (last_number s + 1)
            (apply_change c payload (image_body (frame_bytes m (holder s page)))));
        stored = nothing;
      }) (record { durable = k; pending = w ++ (logged_change page c payload ∷ []) })
  unfolding change_rows
  keep-change page c payload pl e =
      let t = passed (change_rows v m s page c) (omega arith) e in
      let r : (1 ≤ page) × (page ≤ g.pages) = rw (geo x) at (in-range (geometry_of v).pages page t.1.1.1.0) in
      let full : log_full g v s ≡ false = rw (geo x) at t.1.1.1.1.1.1.1.0 in
      let ft : fits c ≡ true = not-false (fits c) t.1.1.1.1.0 in
      let f = found-frame x page r.0 t.1.1.1.1.1.0 in
      let pg : page ≤ 64 = omega (arith, r.1, (sized x).p-high) in
      let nm : last_of page x.all ≤ top_number = omega (arith, few x, last-le page x.all (length x.all)) in
      let body = body_of page x.all in
      keep-add (logged_change page c payload) (holder s page) payload
      (changed_image (frame_bytes m (holder s page)) (last_number s + 1) (apply_change c payload (image_body (frame_bytes m (holder s page)))))
      (omega (arith, f.holder-is)) (omega (arith, f.holder-is, f.in_table))
      (record {
        low = r.0;
        high = r.1;
        fit = ft;
        whole = length-take-le (length_of c) payload (omega (arith, (fits-facts (kind_of c) (length_of c) (offset_of c) (fill_of c) ft).length));
        first = λ z. absurd (omega (arith, f.framed.some));
      })
      t.1.1.1.1.1.1.0 full refl
      (rw (f.framed.frame_is, frame-body g page (last_of page x.all) body pg nm (body-size x page), apply-take c payload body, next-is)
      (frame-changed g page (last_of page x.all) body pg nm (body-size x page) (suc (length x.all)) (apply_change c payload body)))
      Done
      (λ i b ne y. ne (let q : i ≡ f.row = x.al.frames.once i f.row b f.in_table (λ z. omega arith) (y ∙ sym f.page-is) in
      omega (arith, f.holder-is)))
      (λ nz ne. absurd (ne (let q : holder s page - 1 ≡ f.row = omega (arith, f.holder-is) in rw q f.page-is)))
