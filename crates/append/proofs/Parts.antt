-- The memory of Begin and Change: what the parts that are lent, written one after the other, come to.
use mathlib.Core.Path.{◌≡◌, refl, sym, ap, ◌∙◌}
use mathlib.Core.Bool.{true}
use mathlib.Core.List.{List, [], ◌++◌, append_assoc}
use Prim.Native.Nat.{ℕ, ◌+◌, ◌-◌, ◌≤◌}
use native.Mathlib.Omega.{arith}
use lib.ListN.{length, take, drop, replicate, length-replicate, length-append, length-take, length-drop}
use borrow.Rule.Slice.PartMut.{put_mid}
use Rattle.laws.proofs.Parts.{put-splice, part-lent, part_length, part-after, splice-append}
use Rattle.laws.proofs.Fields.{bytes_of-length}
use Rattle.laws.proofs.Changes.{apply-length, padded-length, fits-facts}
use Rattle.laws.proofs.Items.{frame_image-length, record-length}
use Rattle.append.specs.Pended.{pended_memory}
use Rattle.model.specs.Bytes.{bytes_of, part, splice}
use Rattle.model.specs.Change.{kind_of, length_of, offset_of, fill_of, change_fits, fits, apply_change}
use Rattle.model.specs.Item.{image_body, frame_image, record_for, padded, encode_change}
use Rattle.model.specs.Index.{entry_of}
use Rattle.model.specs.State.{pending_at, frame_at, frame_bytes, last_number}
use Rattle.model.specs.Effects.{changed_image, appended_memory}
use Rattle.model.specs.declared.{change.Change.Change, state.State.State}
use Rattle.model.specs.declared.change.Change.TheVariants.{Format}

-- ---- a frame's 256 bytes

pub format-fits : (fill : ℕ) → fits (Format fill) ≡ true
unfolding change_fits
format-fits fill = refl

-- filled throughout, then made an image
pub format-is : (x x₁ x₂ : List ℕ) (page lsn fill : ℕ) → length x ≡ 256 → x₁ ≡ replicate (length x) fill → x₂ ≡ frame_image page lsn
    (part x₁ 8 244)
    → x₂ ≡ frame_image page lsn (replicate 244 fill)
unfolding part
format-is x x₁ x₂ page lsn fill l e₁ e₂ =
    e₂ ∙ ap (λ (y : List ℕ). frame_image page lsn (take 244 (drop 8 y))) (e₁ ∙ ap (λ (n : ℕ). replicate n fill) l)

changed-length : (x : List ℕ) (lsn : ℕ) (body : List ℕ) → length x ≡ 256 → length body ≡ 244 → length (changed_image x lsn body) ≡ 256
changed-length x lsn body l lb = simp (length-append, length-take, length-drop, bytes_of-length) (omega arith)

-- bytes from the fifth on written over a frame
spliced : (x b z : List ℕ) → length b ≡ 4 → length z ≡ 244 → splice x 4 (b ++ z) ≡ take 4 x ++ (b ++ (z ++ drop 252 x))
unfolding splice
spliced x b z lb lz =
    let l : 4 + length (b ++ z) ≡ 252 = ap (λ (k : ℕ). 4 + k) (length-append b z) ∙ omega arith in
    ap (λ (k : ℕ). take 4 x ++ ((b ++ z) ++ drop k x)) l ∙ ap (λ (w : List ℕ). take 4 x ++ w) (append_assoc b z (drop 252 x))

-- a frame changed in place: its number, then its body
pub changed-is : (x x₁ y p : List ℕ) (c : Change) (lsn : ℕ) → length x ≡ 256 → fits c ≡ true → length p ≡ 44
    → x₁ ≡ splice x 4 (bytes_of 4 lsn)
    → y ≡ apply_change c p (take 244 (drop 8 x₁))
    → put_mid 8 244 x₁ y ≡ changed_image x lsn (apply_change c p (image_body x))
changed-is x x₁ y p c lsn l h lp e₁ ey =
    let b = bytes_of 4 lsn in
    let lb : length b ≡ 4 = bytes_of-length 4 lsn in
    let body : take 244 (drop 8 x₁) ≡ image_body x =
    part-lent x₁ 8 244 252 refl ∙ ap (λ (z : List ℕ). part z 8 244) e₁ ∙ part-after x 4 b (omega arith) 8 244 (omega arith) in
    let z = apply_change c p (image_body x) in
    let few = (fits-facts (kind_of c) (length_of c) (offset_of c) (fill_of c) h).length in
    let lz : length z ≡ 244 = apply-length c p (image_body x) h (omega arith) (part_length x 8 244 (omega arith)) in
    let ez : y ≡ z = ey ∙ ap (apply_change c p) body in
    ap (put_mid 8 244 x₁) ez
    ∙ put-splice x₁ 8 244 z lz
    ∙ ap (λ (w : List ℕ). splice w 8 z) e₁
    ∙ ap (λ (k : ℕ). splice (splice x 4 b) (4 + k) z) (sym lb)
    ∙ splice-append x 4 b z (omega arith)
    ∙ spliced x b z lb lz

-- ---- the record

module _ (c : Change) (p : List ℕ) (h : fits c ≡ true) (lp : length p ≡ 44) where
  few : length_of c ≤ 44
  few = (fits-facts (kind_of c) (length_of c) (offset_of c) (fill_of c) h).length

  encode-length : (lsn prev page : ℕ) → length (encode_change lsn prev page c p) ≡ 64
  unfolding encode_change
  encode-length lsn prev page = record-length (record_for lsn prev page c) (padded (length_of c) p)
      (padded-length (length_of c) p few (omega (arith, few)))

  -- encoded into the part that is lent
  pub pended-is : (m x : List ℕ) (s : State) (lsn prev page at : ℕ)
      → lsn ≡ last_number s + 1
      → prev ≡ (entry_of s.index page).last
      → at ≡ pending_at lsn
      → x ≡ encode_change lsn prev page c p
      → put_mid at (at + 64 - at) m x ≡ pended_memory m s page c p
  pended-is m x s lsn prev page at en ep ea ex =
      let k : at + 64 - at ≡ 64 = omega arith in
      put-splice m at (at + 64 - at) x (ap length ex ∙ encode-length lsn prev page ∙ sym k)
      ∙ ap (splice m at) ex
      ∙ ap (λ (i : ℕ). splice m i (encode_change lsn prev page c p)) ea
      ∙ ap (λ (i : ℕ). splice m (pending_at i) (encode_change i prev page c p)) en
      ∙ ap (λ (i : ℕ). splice m (pending_at (last_number s + 1)) (encode_change (last_number s + 1) i page c p)) ep

-- ---- the record, then the frame

module _ (m m₁ : List ℕ) (s : State) (page frame at : ℕ) (c : Change) (p : List ℕ) (ea : at ≡ frame_at frame)
    (e₁ : m₁ ≡ pended_memory m s page c p) where
  appended-is : (x y : List ℕ) → length y ≡ 256 → x ≡ y → put_mid at (at + 256 - at) m₁ x ≡ appended_memory m s page c p frame y
  unfolding appended_memory
  appended-is x y ly ex =
      let k : at + 256 - at ≡ 256 = omega arith in
      put-splice m₁ at (at + 256 - at) x (ap length ex ∙ ly ∙ sym k)
      ∙ ap (splice m₁ at) ex
      ∙ ap (λ (i : ℕ). splice m₁ i y) ea
      ∙ ap (λ (w : List ℕ). splice w (frame_at frame) y) e₁

-- a first format brings no bytes
pub begun-is : (m m₁ x p : List ℕ) (s : State) (page frame at fill lsn : ℕ) → at ≡ frame_at frame
    → m₁ ≡ pended_memory m s page (Format fill) p
    → lsn ≡ last_number s + 1
    → x ≡ frame_image page lsn (replicate 244 fill)
    → put_mid at (at + 256 - at) m₁ x ≡ appended_memory m s page (Format fill) [] frame
    (frame_image page (last_number s + 1) (replicate 244 fill))
unfolding encode_change
begun-is m m₁ x p s page frame at fill lsn ea e₁ en ex =
    appended-is m m₁ s page frame at (Format fill) [] ea e₁ x (frame_image page (last_number s + 1) (replicate 244 fill))
    (frame_image-length page (last_number s + 1) (replicate 244 fill) (length-replicate 244 fill))
    (ex ∙ ap (λ (i : ℕ). frame_image page i (replicate 244 fill)) en)

-- the frame lies behind the records, and reads as before
pub frame-stays : (m m₁ : List ℕ) (s : State) (page frame at : ℕ) (c : Change) (p : List ℕ) → fits c ≡ true
    → length p ≡ 44 → 1024 ≤ length m
    → at ≡ frame_at frame
    → m₁ ≡ pended_memory m s page c p
    → take (at + 256 - at) (drop at m₁) ≡ frame_bytes m frame
frame-stays m m₁ s page frame at c p h lp lm ea e₁ =
    let n = last_number s + 1 in
    let r = encode_change n (entry_of s.index page).last page c p in
    let lr : length r ≡ 64 = encode-length c p h lp n (entry_of s.index page).last page in
    part-lent m₁ at 256 (at + 256) refl
    ∙ ap (λ (i : ℕ). part m₁ i 256) ea
    ∙ ap (λ (w : List ℕ). part w (frame_at frame) 256) e₁
    ∙ part-after m (pending_at n) r (omega arith) (frame_at frame) 256 (omega arith)

pub altered-is : (m m₁ x p : List ℕ) (s : State) (page frame at lsn : ℕ) (c : Change) → fits c ≡ true → length p ≡ 44
    → frame_at frame + 256 ≤ length m
    → at ≡ frame_at frame
    → m₁ ≡ pended_memory m s page c p
    → lsn ≡ last_number s + 1
    → x ≡ changed_image (take (at + 256 - at) (drop at m₁)) lsn (apply_change c p (image_body (take (at + 256 - at) (drop at m₁))))
    → put_mid at (at + 256 - at) m₁ x
    ≡ appended_memory m s page c p frame
    (changed_image (frame_bytes m frame) (last_number s + 1) (apply_change c p (image_body (frame_bytes m frame))))
altered-is m m₁ x p s page frame at lsn c h lp room ea e₁ en ex =
    let f = frame_bytes m frame in
    let lf : length f ≡ 256 = part_length m (frame_at frame) 256 room in
    let body = apply_change c p (image_body f) in
    let lb : length body ≡ 244 = apply-length c p (image_body f) h (omega (arith, few c p h lp)) (part_length f 8 244 (omega arith)) in
    appended-is m m₁ s page frame at c p ea e₁ x (changed_image f (last_number s + 1) body) (changed-length f (last_number s + 1) body lf lb)
    (ex ∙ ap (λ (w : List ℕ). changed_image w lsn (apply_change c p (image_body w)))
    (frame-stays m m₁ s page frame at c p h lp (omega arith) ea e₁)
    ∙ ap (λ (i : ℕ). changed_image f i body) en)
