-- The page recovery index, page by page: what its log columns say of a list of changes, and its note columns of a list
-- of notes.
use mathlib.Core.Path.{◌≡◌, refl, sym, ap, ◌∙◌}
use mathlib.Core.Logic.{◌≢◌}
use mathlib.Core.Bool.{Bool, true, false}
use mathlib.Core.List.{List, [], ◌∷◌, map}
use Prim.Native.Nat.{ℕ, zero, suc, ◌-◌, ◌≤◌, ◌<◌}
use native.Mathlib.Omega.{arith}
use native.Mathlib.Decide.{ℕ_discrete}
use native.Mathlib.Nat.{le_of_suc-le-suc}
use lib.ListN.{length, get_or, length-set, length-replicate, get_or-replicate}
use lib.Seq.{get_or-set_same, get_or-set_other}
use lib.Dec.{eqb}
use borrow.Author.Tests.{eq-eqb, ne_eqb}
use Rattle.model.specs.declared.{item.Note.Note, state.Entry.Entry}
use Rattle.model.specs.Item.{is_written}
use Rattle.model.specs.Index.{empty_entry, empty_index, entry_of, set_entry, with_note, slot_used}
use Rattle.model.specs.AbstractLog.{Logged}
use Rattle.laws.proofs.Tables.{by_cases}
use Rattle.history.proofs.Logs.{last_at}
use Rattle.history.proofs.Marks.{Mark, with_mark, mark_at}

abbrev pub entry_from : ℕ → ℕ → Mark → Entry
entry_from a d k = record { last = a; durable = d; written = k.written; slot = k.slot; backup = k.backup }

pub entry-noted : (a d : ℕ) (k : Mark) (x : Note) → with_note (entry_from a d k) x ≡ entry_from a d (with_mark k x)
entry-noted a d k x = by_cases (is_written x) (λ t. rw t) (λ t. rw t)

-- an index by its entries
pub record Tabled (index : List Entry) (e : ℕ → Entry) : Type 0 where
  pub size : length index ≡ 64
  pub entry : (p : ℕ) → 1 ≤ p → p ≤ 64 → entry_of index p ≡ e p

-- the index over the first a changes (the first d durable) and the first n notes
abbrev pub Indexed : List Entry → List Logged → ℕ → ℕ → List Note → ℕ → Type 0
Indexed index l a d ns n = Tabled index (λ p. entry_from (last_at p l a) (last_at p l d) (mark_at p ns n))

pub tabled_start : (e : ℕ → Entry) → ((p : ℕ) → e p ≡ empty_entry) → Tabled empty_index e
unfolding empty_index
tabled_start e z =
    record {
      size = length-replicate 64 empty_entry;
      entry = λ p h k. get_or-replicate 64 (p - 1) empty_entry empty_entry (omega arith) ∙ sym (z p);
    }

-- one entry is set, and nothing else changes
pub tabled-set : (index : List Entry) (e e' : ℕ → Entry) → Tabled index e → (q : ℕ) (x : Entry) → 1 ≤ q → q ≤ 64 → x ≡ e' q
    → ((p : ℕ) → p ≢ q → e p ≡ e' p)
    → Tabled (set_entry index q x) e'
tabled-set index e e' x q y lo hi here there =
    record { size = length-set index (q - 1) y ∙ x.size; entry = λ p h k. go p h k (ℕ_discrete p q) }
  where
    go : (p : ℕ) → 1 ≤ p → p ≤ 64 → Dec (p ≡ q) → entry_of (set_entry index q y) p ≡ e' p
    go p h k (yes z) = rw z (get_or-set_same index (q - 1) y empty_entry (omega (arith, x.size)) ∙ here)
    go p h k (no z) = get_or-set_other index (q - 1) (p - 1) y empty_entry (λ w. z (omega arith)) ∙ (x.entry p h k ∙ there p z)

-- another list of the same entries
pub tabled-same : (index : List Entry) (e e' : ℕ → Entry) → Tabled index e → ((p : ℕ) → 1 ≤ p → p ≤ 64 → e p ≡ e' p) → Tabled index e'
tabled-same index e e' x f = record { size = x.size; entry = λ p h k. x.entry p h k ∙ f p h k }

get_d_map : (f : Entry → Entry) (xs : List Entry) (i : ℕ) → i < length xs → get_or (map f xs) i empty_entry ≡ f (get_or xs i empty_entry)
get_d_map f [] i h = absurd (omega arith)
get_d_map f (x ∷ xs) zero h = refl
get_d_map f (x ∷ xs) (suc i) h = get_d_map f xs i (le_of_suc-le-suc h)

length-map : (f : Entry → Entry) (xs : List Entry) → length (map f xs) ≡ length xs
length-map f [] = refl
length-map f (x ∷ xs) = ap suc (length-map f xs)

pub tabled-map : (f : Entry → Entry) (index : List Entry) (e : ℕ → Entry) → Tabled index e → Tabled (map f index) (λ p. f (e p))
tabled-map f index e x =
    record {
      size = length-map f index ∙ x.size;
      entry = λ p h k. get_d_map f index (p - 1) (omega (arith, x.size)) ∙ ap f (x.entry p h k);
    }

pub indexed-set : (index : List Entry) (l : List Logged) (a d : ℕ) (ns : List Note) (n : ℕ) → Indexed index l a d ns n
    → (l' : List Logged) (a' d' : ℕ) (ns' : List Note) (n' q : ℕ) (e : Entry) → 1 ≤ q → q ≤ 64
    → e ≡ entry_from (last_at q l' a') (last_at q l' d') (mark_at q ns' n')
    → ((p : ℕ) → p ≢ q
    → entry_from (last_at p l a) (last_at p l d) (mark_at p ns n) ≡ entry_from (last_at p l' a') (last_at p l' d') (mark_at p ns' n'))
    → Indexed (set_entry index q e) l' a' d' ns' n'
indexed-set index l a d ns n x l' a' d' ns' n' q e lo hi here there =
    tabled-set index (λ p. entry_from (last_at p l a) (last_at p l d) (mark_at p ns n))
    (λ p. entry_from (last_at p l' a') (last_at p l' d') (mark_at p ns' n')) x q e lo hi here there

-- a slot is in the index where some page's entry has it
slot-here : (b : ℕ) (index : List Entry) → slot_used b index ≡ false → (i : ℕ) → i < length index → (get_or index i empty_entry).slot ≢ b
unfolding slot_used
slot-here b [] h i c e = omega arith
slot-here b (x ∷ index) h zero c e =
    let t : eqb x.slot b ≡ true = eq-eqb x.slot b e in
    let z : ◌≡◌ {A = Bool} true false = rw t at h in
    let y : ◌≡◌ {A = ℕ} 0 1 = cc in omega arith
slot-here b (x ∷ index) h (suc i) c e = by_cases (eqb x.slot b)
    (λ t. let z : ◌≡◌ {A = Bool} true false = rw t at h in let y : ◌≡◌ {A = ℕ} 0 1 = cc in omega arith)
    (λ t. slot-here b index (rw t at h) i (le_of_suc-le-suc c) e)

slot-nowhere : (b : ℕ) (index : List Entry) → ((i : ℕ) → i < length index → (get_or index i empty_entry).slot ≢ b) → slot_used b index ≡ false
unfolding slot_used
slot-nowhere b [] h = refl
slot-nowhere b (x ∷ index) h = rw (ne_eqb x.slot b (h 0 (omega arith))) (slot-nowhere b index (λ i c. h (suc i) (omega arith)))

module _ (index : List Entry) (e : ℕ → Entry) (x : Tabled index e) (b : ℕ) where
  pub tabled-spare : slot_used b index ≡ false → (p : ℕ) → 1 ≤ p → p ≤ 64 → (e p).slot ≢ b
  tabled-spare h p lo hi q = slot-here b index h (p - 1) (omega (arith, x.size)) (ap (λ (y : Entry). y.slot) (x.entry p lo hi) ∙ q)

  pub spare-tabled : ((p : ℕ) → 1 ≤ p → p ≤ 64 → (e p).slot ≢ b) → slot_used b index ≡ false
  spare-tabled h = slot-nowhere b index (λ i c q.
      h (suc i) (omega arith) (omega (arith, x.size))
      (sym (ap (λ (y : Entry). y.slot) (x.entry (suc i) (omega arith) (omega (arith, x.size)))) ∙ (rw (suc-less i) q)))
    where
      suc-less : (i : ℕ) → suc i - 1 ≡ i
      suc-less i = omega arith

module _ (index : List Entry) (l : List Logged) (a d : ℕ) (ns : List Note) (n : ℕ) (x : Indexed index l a d ns n) (b : ℕ) where
  pub slot-spare : slot_used b index ≡ false → (p : ℕ) → 1 ≤ p → p ≤ 64 → (mark_at p ns n).slot ≢ b
  slot-spare = tabled-spare index (λ p. entry_from (last_at p l a) (last_at p l d) (mark_at p ns n)) x b
