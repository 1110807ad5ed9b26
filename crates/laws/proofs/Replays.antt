-- The laws for changes. A put that ends before place k, and a change that keeps what lies before k and makes the rest from what lies from k
-- on, change places: that is one law for a put and a later put, and for a put and a later slide.
use mathlib.Core.Path.{◌≡◌, refl, sym, ap, ◌∙◌, subst}
use mathlib.Core.Logic.{⊎_elim, ◌≢◌}
use mathlib.Core.Bool.{Bool, true, false, cond}
use mathlib.Core.List.{List, [], ◌∷◌, ◌++◌, append_assoc}
use Prim.Native.Nat.{ℕ, suc, ◌+◌, ◌-◌, ◌≤◌}
use native.Mathlib.Omega.{arith}
use lib.Dec.{eqb}
use lib.ListN.{length, take, drop}
use lib.Seq.{length-take-le, drop_at, take-take, drop-drop, take-append-le, drop-append-le, take-append-add, drop-append-add, take-add}
use borrow.Author.Tests.{eqb-true, ne_eqb}
use Rattle.laws.proofs.Tables.{by_cases}
use Rattle.laws.proofs.Changes.{apply-length}
use Rattle.model.specs.Change.{apply_change}
use Rattle.model.specs.Item.{apply_record}
use Rattle.model.specs.Repair.{replay_chain}
use Rattle.model.specs.AbstractLog.{Logged, replay_on, last_place_from}
use Rattle.model.specs.ChangeLaws.{put_on, slide_on, InBody, Apart, Covers, Elsewhere, AllFit, ChangeLaws}
use Rattle.model.specs.declared.change.Change.{Change}
use Rattle.model.specs.declared.change.Change.TheVariants.{Put, Slide}

-- ---- lists joined

joined : (q : ℕ) (xs ys : List Logged) (body : List ℕ) → replay_on q (xs ++ ys) body ≡ replay_on q ys (replay_on q xs body)
unfolding replay_on
joined q [] ys body = refl
joined q (c ∷ cs) ys body = joined q cs ys _

chains : (log : ℕ → List ℕ) (ns ms body : List ℕ) → replay_chain log (ns ++ ms) body ≡ replay_chain log ns (replay_chain log ms body)
unfolding replay_chain
chains log [] ms body = refl
chains log (n ∷ ns) ms body = ap (apply_record (log n)) (chains log ns ms body)

number : (n found q : ℕ) (xs ys : List Logged)
    → last_place_from n found q (xs ++ ys) ≡ last_place_from (n + length xs) (last_place_from n found q xs) q ys
unfolding last_place_from
number n found q [] ys = let e : n + 0 ≡ n = omega arith in ap (λ (k : ℕ). last_place_from k found q ys) (sym e)
number n found q (c ∷ cs) ys =
    let e : suc n + length cs ≡ n + suc (length cs) = omega arith in
    let f : ℕ = cond (eqb c.page q) (suc n) found in
    number (suc n) f q cs ys ∙ ap (λ (k : ℕ). last_place_from k (last_place_from (suc n) f q cs) q ys) e

size : (q : ℕ) (xs : List Logged) (body : List ℕ) → AllFit xs → length body ≡ 244 → length (replay_on q xs body) ≡ 244
unfolding replay_on
size q [] body h e = e
size q (c ∷ cs) body h e =
    size q cs _ h.1
    (by_cases (eqb c.page q) (λ t. rw t (apply-length c.change c.bytes body h.0.0 h.0.1 e)) (λ t. rw t e))

-- ---- a put on a body

module _ (o n : ℕ) (bs body : List ℕ) (h : InBody o n bs) (e : length body ≡ 244) where
  front : length (take o body) ≡ o
  front = length-take-le o body (omega (arith, h.room, e))

  own : length (take n bs) ≡ n
  own = length-take-le n bs h.payload

  -- what lies before it is as it was
  before : (k : ℕ) → k ≤ o → take k (apply_change (Put o n) bs body) ≡ take k body
  unfolding apply_change
  before k l =
      take-append-le k (take o body) (take n bs ++ drop (o + n) body) (omega (arith, front, l)) ∙ take-take k o body l

  -- what lies behind it is as it was
  behind : (k : ℕ) → o + n ≤ k → drop k (apply_change (Put o n) bs body) ≡ drop k body
  unfolding apply_change
  behind k l =
      let j : ℕ = k - (o + n) in
      let t : o + n + j ≡ k = omega (arith, l) in
      let a : k ≡ length (take o body) + (n + j) = omega (arith, front, l) in
      let b : n + j ≡ length (take n bs) + j = omega (arith, own) in
      ap (λ (i : ℕ). drop i (take o body ++ (take n bs ++ drop (o + n) body))) a
      ∙ drop-append-add (take o body) (take n bs ++ drop (o + n) body) (n + j)
      ∙ ap (λ (i : ℕ). drop i (take n bs ++ drop (o + n) body)) b
      ∙ drop-append-add (take n bs) (drop (o + n) body) j
      ∙ drop-drop j (o + n) body
      ∙ ap (λ (i : ℕ). drop i body) t

  module _ (k : ℕ) (l : o + n ≤ k) where
    -- the bytes between the put's end and k
    mid : List ℕ
    mid = take (k - (o + n)) (drop (o + n) body)

    -- the put's own bytes and those about it, up to k
    up_to : take k (apply_change (Put o n) bs body) ≡ take o body ++ (take n bs ++ mid)
    unfolding apply_change mid
    up_to =
        let j : ℕ = k - (o + n) in
        let a : k ≡ length (take o body) + (n + j) = omega (arith, front, l) in
        let b : n + j ≡ length (take n bs) + j = omega (arith, own) in
        ap (λ (i : ℕ). take i (take o body ++ (take n bs ++ drop (o + n) body))) a
        ∙ take-append-add (take o body) (take n bs ++ drop (o + n) body) (n + j)
        ∙ ap (λ (i : ℕ). take o body ++ take i (take n bs ++ drop (o + n) body)) b
        ∙ ap (λ (r : List ℕ). take o body ++ r) (take-append-add (take n bs) (drop (o + n) body) j)

    -- put into a body that is the same up to k
    put-below : k ≤ 244 → (tail : List ℕ) → apply_change (Put o n) bs (take k body ++ tail) ≡ take o body ++ (take n bs ++ (mid ++ tail))
    unfolding apply_change mid
    put-below m tail =
        let j : ℕ = k - (o + n) in
        let u : o + n + j ≡ k = omega (arith, l) in
        let z : length (take k body) ≡ k = length-take-le k body (omega (arith, m, e)) in
        let w : length (take (o + n) body) ≡ o + n = length-take-le (o + n) body (omega (arith, h.room, e)) in
        let f : take o (take k body ++ tail) ≡ take o body =
        take-append-le o (take k body) tail (omega (arith, z, l)) ∙ take-take o k body (omega (arith, l)) in
        let g : drop (o + n) (take k body) ≡ mid =
        ap (λ (i : ℕ). drop (o + n) (take i body)) (sym u) ∙ ap (λ (r : List ℕ). drop (o + n) r) (take-add (o + n) j body)
        ∙ drop_at (take (o + n) body) mid (o + n) w in
        let d : drop (o + n) (take k body ++ tail) ≡ mid ++ tail =
        drop-append-le (o + n) (take k body) tail (omega (arith, z, l)) ∙ ap (λ (r : List ℕ). r ++ tail) g in
        ap (λ (r : List ℕ). r ++ (take n bs ++ drop (o + n) (take k body ++ tail))) f
        ∙ ap (λ (r : List ℕ). take o body ++ (take n bs ++ r)) d

    -- a change that keeps what lies before k and makes the rest from what lies from k on
    beyond : k ≤ 244 → (f : List ℕ → List ℕ)
        → take k (apply_change (Put o n) bs body) ++ f (drop k (apply_change (Put o n) bs body))
        ≡ apply_change (Put o n) bs (take k body ++ f (drop k body))
    beyond m f =
        let x : List ℕ = apply_change (Put o n) bs body in
        let tail : List ℕ = f (drop k body) in
        ap (λ (r : List ℕ). r ++ f (drop k x)) up_to
        ∙ ap (λ (r : List ℕ). (take o body ++ (take n bs ++ mid)) ++ f r) (behind k l)
        ∙ append_assoc (take o body) (take n bs ++ mid) tail
        ∙ ap (λ (r : List ℕ). take o body ++ r) (append_assoc (take n bs) mid tail)
        ∙ sym (put-below m tail)

-- ---- two changes on a body

-- what a put makes of what lies from its offset on
put-from : ℕ → List ℕ → List ℕ → List ℕ
put-from n bs d = take n bs ++ drop n d

put_is : (o n : ℕ) (bs body : List ℕ) → apply_change (Put o n) bs body ≡ take o body ++ put-from n bs (drop o body)
unfolding apply_change put-from
put_is o n bs body = ap (λ (r : List ℕ). take o body ++ (take n bs ++ r)) (sym (drop-drop n o body))

module _ (o n o' n' : ℕ) (bs cs body : List ℕ) (e : length body ≡ 244) (h : InBody o n bs) (h' : InBody o' n' cs) where
  -- a put that ends before another put
  swap : o + n ≤ o'
      → apply_change (Put o' n') cs (apply_change (Put o n) bs body) ≡ apply_change (Put o n) bs (apply_change (Put o' n') cs body)
  swap l =
      put_is o' n' cs (apply_change (Put o n) bs body)
      ∙ (beyond o n bs body h e o' l (omega (arith, h'.room)) (put-from n' cs)
      ∙ ap (apply_change (Put o n) bs) (sym (put_is o' n' cs body)))

  -- a put that ends before a slide
  slip : o + n ≤ o'
      → apply_change (Slide o' n') cs (apply_change (Put o n) bs body) ≡ apply_change (Put o n) bs (apply_change (Slide o' n') cs body)
  unfolding apply_change
  slip l = beyond o n bs body h e o' l (omega (arith, h'.room)) (λ (d : List ℕ). take n' cs ++ take (244 - (o' + n')) d)

-- a put that the next one covers
cover : (o n o' n' : ℕ) (bs cs body : List ℕ) → length body ≡ 244 → InBody o n bs → Covers o n o' n'
    → apply_change (Put o' n') cs (apply_change (Put o n) bs body) ≡ apply_change (Put o' n') cs body
unfolding apply_change
cover o n o' n' bs cs body e h c =
    let x : List ℕ = apply_change (Put o n) bs body in
    ap (λ (r : List ℕ). r ++ (take n' cs ++ drop (o' + n') x)) (before o n bs body h e o' c.from)
    ∙ ap (λ (r : List ℕ). take o' body ++ (take n' cs ++ r)) (behind o n bs body h e (o' + n') c.to)

-- ---- in a list, whatever page is replayed

-- other pages' changes leave a page as it is
elsewhere : (p : ℕ) (cs : List Logged) (body : List ℕ) → Elsewhere p cs → replay_on p cs body ≡ body
unfolding replay_on
elsewhere p [] body h = refl
elsewhere p (c ∷ cs) body h = rw (ne_eqb c.page p h.0) (elsewhere p cs body h.1)

either : (a b : Bool) (f g : List ℕ → List ℕ) (x : List ℕ) → (a ≡ true → b ≡ true → ⊥)
    → cond b (f (cond a (g x) x)) (cond a (g x) x) ≡ cond a (g (cond b (f x) x)) (cond b (f x) x)
either true true f g x h = absurd (h refl refl)
either true false f g x h = refl
either false true f g x h = refl
either false false f g x h = refl

pages : (q : ℕ) (c d : Logged) (rest : List Logged) (body : List ℕ) → c.page ≢ d.page
    → replay_on q (c ∷ d ∷ rest) body ≡ replay_on q (d ∷ c ∷ rest) body
unfolding replay_on
pages q c d rest body h =
    ap (replay_on q rest)
    (either (eqb c.page q) (eqb d.page q) (apply_change d.change d.bytes) (apply_change c.change c.bytes) body
    (λ s t. h (eqb-true c.page q s ∙ sym (eqb-true d.page q t))))

-- changes of page p, with others' changes between: on page p they alone count, on any other page the others alone
module _ (q p : ℕ) (between rest : List Logged) (h : Elsewhere p between) where
  -- page q in the end, if it is p, and if it is not
  ends : List ℕ → List ℕ → List ℕ
  ends made body = cond (eqb p q) (replay_on q rest made) (replay_on q rest (replay_on q between body))

  one-change : (c : Change) (xs body : List ℕ)
      → replay_on q (between ++ (record { page = p; change = c; bytes = xs } ∷ rest)) body ≡ ends (apply_change c xs body) body
  unfolding replay_on ends
  one-change c xs body =
      joined q between (record { page = p; change = c; bytes = xs } ∷ rest) body
      ∙ by_cases (eqb p q)
      (λ t.
      let s : replay_on q between body ≡ body = elsewhere q between body (subst (λ (k : ℕ). Elsewhere k between) (eqb-true p q t) h) in
      rw t (ap (λ (r : List ℕ). replay_on q rest (apply_change c xs r)) s))
      (λ t. rw t refl)

  two-changes : (c d : Change) (xs ys body : List ℕ)
      → replay_on q (record { page = p; change = c; bytes = xs } ∷ (between ++ (record { page = p; change = d; bytes = ys } ∷ rest))) body
      ≡ ends (apply_change d ys (apply_change c xs body)) body
  unfolding replay_on ends
  two-changes c d xs ys body =
      one-change d ys (cond (eqb p q) (apply_change c xs body) body) ∙ by_cases (eqb p q) (λ t. rw t refl) (λ t. rw t refl)

  module _ (o n o' n' : ℕ) (bs cs body : List ℕ) (e : length body ≡ 244) (f : InBody o n bs) where
    apart : InBody o' n' cs → Apart o n o' n'
        → replay_on q (put_on p o n bs ∷ (between ++ (put_on p o' n' cs ∷ rest))) body
        ≡ replay_on q (put_on p o' n' cs ∷ (between ++ (put_on p o n bs ∷ rest))) body
    apart f' t =
        let s : apply_change (Put o' n') cs (apply_change (Put o n) bs body) ≡ apply_change (Put o n) bs (apply_change (Put o' n') cs body) =
        ⊎_elim (λ l. swap o n o' n' bs cs body e f f' l) (λ l. sym (swap o' n' o n cs bs body e f' f l)) t in
        two-changes (Put o n) (Put o' n') bs cs body ∙ ap (λ (r : List ℕ). ends r body) s
        ∙ sym (two-changes (Put o' n') (Put o n) cs bs body)

    covered : Covers o n o' n'
        → replay_on q (put_on p o n bs ∷ (between ++ (put_on p o' n' cs ∷ rest))) body ≡ replay_on q (between ++ (put_on p o' n' cs ∷ rest)) body
    covered t =
        two-changes (Put o n) (Put o' n') bs cs body ∙ ap (λ (r : List ℕ). ends r body) (cover o n o' n' bs cs body e f t)
        ∙ sym (one-change (Put o' n') cs body)

    ahead : InBody o' n' cs → o + n ≤ o'
        → replay_on q (put_on p o n bs ∷ (between ++ (slide_on p o' n' cs ∷ rest))) body
        ≡ replay_on q (slide_on p o' n' cs ∷ (between ++ (put_on p o n bs ∷ rest))) body
    ahead f' l =
        two-changes (Put o n) (Slide o' n') bs cs body ∙ ap (λ (r : List ℕ). ends r body) (slip o n o' n' bs cs body e f f' l)
        ∙ sym (two-changes (Slide o' n') (Put o n) cs bs body)

-- ---- the whole

pub change-laws : ChangeLaws
change-laws =
    record {
      joined = joined;
      chains = chains;
      number = number;
      size = size;
      pages = pages;
      apart = λ q p o n o' n' bs cs body between rest e f f' t h. apart q p between rest h o n o' n' bs cs body e f f' t;
      covered = λ q p o n o' n' bs cs body between rest e f t h. covered q p between rest h o n o' n' bs cs body e f t;
      ahead = λ q p o n o' n' bs cs body between rest e f f' t h. ahead q p between rest h o n o' n' bs cs body e f f' t;
    }
