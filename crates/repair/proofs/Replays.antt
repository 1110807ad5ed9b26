-- The replay as a loop makes it, from the end of the chain to its front, and the image that is built around it.
use Prim.Native.Nat.{ℕ, zero, suc, ◌+◌, ◌≤◌, ◌<◌}
use mathlib.Core.Path.{◌≡◌, refl, sym, ap, ◌∙◌, subst}
use mathlib.Core.Bool.{Bool, true, false}
use mathlib.Core.List.{List, [], ◌∷◌}
use native.Mathlib.Omega.{arith}
use lib.ListN.{length, take, drop, length-take, length-drop}
use Rattle.std.specs.List.{push}
use borrow.Rule.Slice.PartMut.{put_mid}
use Rattle.laws.proofs.Chain.{chain-few}
use Rattle.laws.proofs.Parts.{splice-length, put-part, put-splice}
use Rattle.model.specs.Bytes.{part}
use Rattle.model.specs.Geometry.{page_at, item}
use Rattle.model.specs.Item.{image_lsn, valid_image, frame_image, record_layout, apply_record}
use Rattle.model.specs.Repair.{class_of, is_broken, View, view_of, walk_from, walk_of, own_start, backup_start, replay_chain}
use Rattle.model.specs.Repair.{start_body, rebuilt_body, rebuilt, repair_of}
use Rattle.model.specs.declared.{answer.Stop.Stop, answer.Class.Class, answer.Repair.Repair, state.Entry.Entry}
use Rattle.model.specs.declared.geometry.Geometry.{Geometry}
use Rattle.model.specs.declared.answer.Stop.TheVariants.{Broken}
use Rattle.model.specs.declared.answer.Stop.TheVariants.{Backup}
use Rattle.repair.specs.Walked.{Whole, log_of, counted, walked_of, repair_as, chain_from}
use Rattle.repair.specs.declared.walk.Traced.{Traced}
use Rattle.repair.specs.declared.walk.Walked.{Walked}
use Rattle.repair.proofs.Links.{link, Linked, walk_none, walk-linked, walk-backup}
use Rattle.repair.proofs.Walks.{walk-chain}

-- ---- a whole walk

module _ (g : Geometry) (p : ℕ) (w : View) where
  -- its chain's records are links
  pub chain-linked : Linked w.log p w.durable (walk_of g p w).chain
  unfolding walk_of
  chain-linked = go w.durable
    where
      go : (n : ℕ) → Linked w.log p n (walk_from n w.log w.first p (own_start g p w) (backup_start g p w) n).chain
      go zero = rw (walk_none w.log w.first p (own_start g p w) (backup_start g p w) 0) tt
      go (suc n) =
          walk-linked w.log w.first p (own_start g p w) (backup_start g p w) (suc n) (suc n) (suc n) (omega arith) (omega arith)

  -- where it stops at the backup, there is one
  pub stop-backup : (walk_of g p w).stop ≡ Backup → 1 ≤ backup_start g p w
  unfolding walk_of
  stop-backup e = go w.durable e
    where
      go : (n : ℕ) → (walk_from n w.log w.first p (own_start g p w) (backup_start g p w) n).stop ≡ Backup → 1 ≤ backup_start g p w
      go zero q =
          let z : Broken ≡ Backup = rw (walk_none w.log w.first p (own_start g p w) (backup_start g p w) 0) at q in
          let f : ◌≡◌ {A = ℕ} 0 1 = cc in
          absurd (omega arith)
      go (suc n) q = walk-backup w.log w.first p (own_start g p w) (backup_start g p w) (suc n) (suc n) (omega arith) q

  -- it is followed from number to number
  pub chain-is : (walk_of g p w).chain ≡ chain_from (length (walk_of g p w).chain) w.log w.durable
  unfolding walk_of chain_from
  chain-is = go w.durable
    where
      go : (n : ℕ) → (walk_from n w.log w.first p (own_start g p w) (backup_start g p w) n).chain
          ≡ chain_from (length (walk_from n w.log w.first p (own_start g p w) (backup_start g p w) n).chain) w.log n
      go zero = rw (walk_none w.log w.first p (own_start g p w) (backup_start g p w) 0)
      go (suc n) = walk-chain w.log w.first p (own_start g p w) (backup_start g p w) (suc n) (suc n) (omega arith)

  -- and has no more of them than the run, and the log
  pub chain-most : w.durable < w.first + g.records → length (walk_of g p w).chain ≤ g.records
  unfolding walk_of
  chain-most h = omega (arith, chain-few w.durable w.log w.first p (own_start g p w) (backup_start g p w) w.durable)

  -- the struct that holds what it found
  module _ (c : Walked) (c-is : c ≡ walked_of g p w) where
    pub stop_is : c.stop ≡ (walk_of g p w).stop
    unfolding walked_of
    stop_is = ap (λ (k : Walked). k.stop) c-is

    pub count-is : c.count ≡ length (walk_of g p w).chain
    unfolding walked_of
    count-is = ap (λ (k : Walked). k.count) c-is

-- ---- the loop

-- a chain is taken from its end: the changes of the rest, made on the body as it is, give the whole
module _ (log : ℕ → List ℕ) where
  pub replay-last : (rest : List ℕ) (n : ℕ) (body : List ℕ)
      → replay_chain log (push rest n) body ≡ replay_chain log rest (apply_record (log n) body)
  unfolding replay_chain
  replay-last [] n body = refl
  replay-last (m ∷ rest) n body = ap (apply_record (log m)) (replay-last rest n body)

  pub replay-none : (rest body : List ℕ) → length rest ≡ 0 → replay_chain log rest body ≡ body
  unfolding replay_chain
  replay-none [] body e = refl
  replay-none (m ∷ rest) body e = absurd (omega arith)

  pub linked-last : (p top : ℕ) (rest : List ℕ) (n : ℕ) → Linked log p top (push rest n)
      → Linked log p top rest × (record_layout (log n) ≡ true)
  linked-last p top [] n k = (tt, (link p n (log n) k.0).layout)
  linked-last p top (m ∷ rest) n k =
      let l = linked-last p top rest n k.3 in
      ((k.0, k.1, k.2, l.0), l.1)

-- what is left to replay
pub record Replaying (log : ℕ → List ℕ) (p top : ℕ) (whole body rest : List ℕ) : Type 0 where
  pub linked : Linked log p top rest
  pub same : replay_chain log rest body ≡ whole

pub replaying-on : (log : ℕ → List ℕ) (p top : ℕ) (whole body rest left : List ℕ) (n : ℕ) (r : List ℕ)
    → Replaying log p top whole body rest → rest ≡ push left n → r ≡ log n
    → (record_layout r ≡ true) × Replaying log p top whole (apply_record r body) left
replaying-on log p top whole body rest left n r h e r-is =
    let l = linked-last log p top left n (subst (Linked log p top) e h.linked) in (
      ap record_layout r-is ∙ l.1,
      record {
        linked = l.0;
        same = rw r-is (sym (replay-last log left n body) ∙ (rw e at h.same));
      },
    )

-- ---- the image

-- the part of an image that holds its body
pub body-length : (dst : List ℕ) → length dst ≡ 256 → length (take 244 (drop 8 dst)) ≡ 244
body-length dst h = simp (length-take, length-drop) (omega arith)

-- a body put in its part of an image
module _ (dst b : List ℕ) (size : length dst ≡ 256) (len : length b ≡ 244) where
  fits : 8 + length b ≤ length dst
  fits = omega arith

  pub around-length : length (put_mid 8 244 dst b) ≡ 256
  around-length = rw (put-splice dst 8 244 b len) (splice-length dst 8 b fits ∙ size)

-- what was begun, replayed and built is the rebuilt image
pub built : (g : Geometry) (p : ℕ) (w : View) (c : Walked) → c ≡ walked_of g p w
    → (dst first last out : List ℕ) → length dst ≡ 256 → length last ≡ 244
    → first ≡ start_body c.stop w → last ≡ replay_chain w.log (walk_of g p w).chain first
    → out ≡ frame_image p w.durable (part (put_mid 8 244 dst last) 8 244) → out ≡ rebuilt g p w
unfolding rebuilt_body
built g p w c c-is dst first last out size len f l o =
    let s : first ≡ start_body (walk_of g p w).stop w = f ∙ ap (λ (k : Stop). start_body k w) (stop_is g p w c c-is) in
    let b : last ≡ replay_chain w.log (walk_of g p w).chain (start_body (walk_of g p w).stop w) = l
    ∙ ap (replay_chain w.log (walk_of g p w).chain) s in
    o ∙ ap (frame_image p w.durable) (put-part dst 8 244 last len (omega (arith, size)) ∙ b)

-- ---- the answer

pub answered : (g : Geometry) (p : ℕ) (w : View) (c : Walked) → c ≡ walked_of g p w → (r : Repair) → r ≡ repair_as c → r ≡ repair_of g p w
unfolding repair_of walked_of
answered g p w c c-is r r-is = r-is ∙ ap repair_as c-is

-- ---- the walk from what was read

module _ (g : Geometry) (v : List ℕ) (f : ℕ) (e : Entry) (p own backup : ℕ) (own_is : own ≡ own_start g p (view_of g v f e p))
    (backup-is : backup ≡ backup_start g p (view_of g v f e p)) where
  pub walk-whole : Whole g p (view_of g v f e p) → 1 ≤ e.durable
      → is_broken (walk_from e.durable (log_of g v) f p own backup e.durable).stop ≡ false
  unfolding walk_of
  walk-whole h l = rw (own_is, backup-is) (h l)

  pub walked : (t : Traced) (k : Class) (x : List ℕ) (b : Bool) (n : ℕ)
      → t ≡ counted (walk_from e.durable (log_of g v) f p own backup e.durable)
      → x ≡ item g v (page_at p) → b ≡ valid_image g p x → n ≡ image_lsn x → k ≡ class_of b n e.durable e.written
      → ◌≡◌ {A = Walked} (record { stop = t.stop; count = t.count; class = k }) (walked_of g p (view_of g v f e p))
  unfolding walked_of walk_of
  walked t k x b n t-is x-is b-is n-is k-is = rw (t-is, k-is, b-is, n-is, x-is, own_is, backup-is)
