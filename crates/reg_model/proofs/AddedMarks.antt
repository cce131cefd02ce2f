-- Marks stay well formed as marks are added at their end.
use Rattle.std.proofs.Common.{◌≡◌, ◌≢◌, ℕ, zero, suc, ◌+◌, ◌<◌, ◌≤◌, ◌⊎◌, inl, inr, ⊎_elim, Bool, true, false, cond, nat_eq, List, [], ◌∷◌, ◌++◌, length, get_or, map, take, Some, refl, sym, ap, ◌∙◌, subst, arith, append-nil}
use Rattle.std.specs.Prelude.{slice_get}
use Rattle.std.specs.List.{All}
use Rattle.std.specs.List.Sorted.{IsStrictlyIncreasing}
use Rattle.std.proofs.lemmas.List.{get_or_append_left, get_or_push, get_or-map, get_or_default, length-map, take-append-le, take_at, length_push}
use Rattle.std.proofs.lemmas.Option.{slice_get-get_or, slice_get_within, same_Some}
use Rattle.std.proofs.lemmas.Bool.{cases_eq, eq-eqb}
use Rattle.fab_base.specs.declared.identities.BrickId.{BrickId}
use Rattle.fab_base.specs.declared.asks.Ask.{Ask}
use Rattle.fab_base.specs.declared.answers.Answer.{Answer}
use Rattle.reg_model.specs.declared.marks.Mark.{Mark}
use Rattle.reg_model.specs.declared.marks.Mark.TheVariants.{Begin, End, Crash}
use Rattle.reg_model.specs.Marks.{Life, life_of, ending_of, IsOpen, IsWellFormed, position_of, begun_numbers}

-- each mark's position is its place
abbrev pub Places : List Mark → Type 0
Places marks = (k : ℕ) (mark : Mark) → slice_get marks k ≡ Some mark → position_of mark ≡ k

-- an element of a list with one more is an old one, or the new one at the end
pub slice_get_push : {A : Type 0} (xs : List A) (x y : A) (k : ℕ) → slice_get (xs ++ (x ∷ [])) k ≡ Some y
    → (slice_get xs k ≡ Some y) ⊎ ((k ≡ length xs) × (x ≡ y))
slice_get_push [] x y zero h = inr (refl, same_Some x y h)
slice_get_push [] x y (suc k) h = inl h
slice_get_push (z ∷ xs) x y zero h = inl h
slice_get_push (z ∷ xs) x y (suc k) h = ⊎_elim
    (λ (old : slice_get xs k ≡ Some y). inl old)
    (λ (new : (k ≡ length xs) × (x ≡ y)). inr (ap suc new.0, new.1))
    (slice_get_push xs x y k h)

-- one more mark, of the next position
pub Places-push : (marks : List Mark) (mark : Mark) → Places marks → position_of mark ≡ length marks → Places (marks ++ (mark ∷ []))
Places-push marks mark places at k m h = ⊎_elim
    (λ (old : slice_get marks k ≡ Some m). places k m old)
    (λ (new : (k ≡ length marks) × (mark ≡ m)). ap position_of (sym new.1) ∙ at ∙ sym new.0)
    (slice_get_push marks mark m k h)

position_at : (marks : List Mark) → Places marks → (k : ℕ) → k < length marks → get_or (map position_of marks) k 0 ≡ k
position_at marks places k lt =
    let d : Mark = Crash 0 (record { 0 = 0 }) in
    get_or-map position_of marks k d 0 lt ∙ places k (get_or marks k d) (slice_get-get_or marks k d lt)

-- positions that are places rise
pub positions_rise : (marks : List Mark) → Places marks → IsStrictlyIncreasing (map position_of marks)
positions_rise marks places k lt =
    let long : length (map position_of marks) ≡ length marks = length-map marks position_of in
    let here : get_or (map position_of marks) k 0 ≡ k = position_at marks places k (omega arith) in
    let next : get_or (map position_of marks) (k + 1) 0 ≡ k + 1 = position_at marks places (k + 1) (omega arith) in
    omega arith

-- the numbers of two lists of marks are those of the first, and then those of the second
pub begun_numbers-append : (marks more : List Mark) → begun_numbers (marks ++ more) ≡ begun_numbers marks ++ begun_numbers more
begun_numbers-append [] more = refl
begun_numbers-append (Begin p n b ask ∷ marks) more = ap (λ (xs : List ℕ). n ∷ xs) (begun_numbers-append marks more)
begun_numbers-append (End p n answer ∷ marks) more = begun_numbers-append marks more
begun_numbers-append (Crash p b ∷ marks) more = begun_numbers-append marks more

-- one more number above all others
pub increasing_push : (xs : List ℕ) (y : ℕ) → IsStrictlyIncreasing xs → All (λ x. x < y) xs → IsStrictlyIncreasing (xs ++ (y ∷ []))
increasing_push xs y up below k lt =
    let long : length (xs ++ (y ∷ [])) ≡ length xs + 1 = length_push xs y in
    let left : get_or (xs ++ (y ∷ [])) k 0 ≡ get_or xs k 0 = get_or_append_left xs (y ∷ []) 0 k (omega arith) in
    ⊎_elim
    (λ (last : k + 1 ≡ length xs).
    let right : get_or (xs ++ (y ∷ [])) (k + 1) 0 ≡ y = get_or_push xs y 0 (k + 1) (sym last) in
    let lower : get_or xs k 0 < y = below k 0 (omega arith) in
    omega arith)
    (λ (inner : k + 1 ≢ length xs).
    let right : get_or (xs ++ (y ∷ [])) (k + 1) 0 ≡ get_or xs (k + 1) 0 = get_or_append_left xs (y ∷ []) 0 (k + 1) (omega arith) in
    let rise : get_or xs k 0 < get_or xs (k + 1) 0 = up k (omega arith) in
    omega arith)
    (cases_eq (k + 1) (length xs))

-- one more mark, which an open operation's End may be
pub ends_push : (marks : List Mark) (mark : Mark)
    → ((i p n : ℕ) (answer : Answer) → slice_get marks i ≡ Some (End p n answer) → IsOpen (life_of (take i marks) n))
    → ((p n : ℕ) (answer : Answer) → mark ≡ End p n answer → IsOpen (life_of marks n))
    → (i p n : ℕ) (answer : Answer) → slice_get (marks ++ (mark ∷ [])) i ≡ Some (End p n answer) → IsOpen (life_of (take i (marks ++ (mark ∷ []))) n)
ends_push marks mark old new i p n answer h = ⊎_elim
    (λ (is : slice_get marks i ≡ Some (End p n answer)).
    let within : i < length marks = slice_get_within marks i (End p n answer) is in
    let same : take i (marks ++ (mark ∷ [])) ≡ take i marks = take-append-le i marks (mark ∷ []) (omega arith) in
    subst (λ (l : List Mark). IsOpen (life_of l n)) (sym same) (old i p n answer is))
    (λ (is : (i ≡ length marks) × (mark ≡ End p n answer)).
    let same : take i (marks ++ (mark ∷ [])) ≡ marks = take_at marks (mark ∷ []) i (sym is.0) in
    subst (λ (l : List Mark). IsOpen (life_of l n)) (sym same) (new p n answer is.1))
    (slice_get_push marks mark (End p n answer) i h)

-- an End of an open operation keeps marks well formed
pub well_formed_end : (marks : List Mark) (p n : ℕ) (answer : Answer) → IsWellFormed marks → Places (marks ++ (End p n answer ∷ []))
    → IsOpen (life_of marks n) → IsWellFormed (marks ++ (End p n answer ∷ []))
well_formed_end marks p n answer well places open' = record {
  positions_rise = positions_rise (marks ++ (End p n answer ∷ [])) places;
  numbers_rise = subst (λ (xs : List ℕ). IsStrictlyIncreasing xs)
      (sym (begun_numbers-append marks (End p n answer ∷ []) ∙ append-nil (begun_numbers marks))) well.numbers_rise;
  ends_are_of_open = ends_push marks (End p n answer) well.ends_are_of_open
      (λ q k a is. let same : n ≡ k = cc in subst (λ (x : ℕ). IsOpen (life_of marks x)) same open');
}

-- the number of each Begin has a life
pub begun_lives : (marks : List Mark) (k : ℕ) → k < length (begun_numbers marks)
    → (life : Life) × (life_of marks (get_or (begun_numbers marks) k 0) ≡ Some life)
begun_lives [] k lt = absurd (omega arith)
begun_lives (Begin p n b ask ∷ marks) zero lt =
    let life : Life = record { begin = p; brick = b.0; ask = ask; ending = ending_of marks n b.0 (p + 1) } in
    (life, ap (λ (t : Bool). cond t (Some life) (life_of marks n)) (eq-eqb n n refl))
begun_lives (Begin p n b ask ∷ marks) (suc k) lt =
    let m : ℕ = get_or (begun_numbers marks) k 0 in
    let mine : Life = record { begin = p; brick = b.0; ask = ask; ending = ending_of marks m b.0 (p + 1) } in
    elim (nat_eq n m) as (λ t. (life : Life) × (cond t (Some mine) (life_of marks m) ≡ Some life))
    [ true ↦ (mine, refl) | false ↦ begun_lives marks k (omega arith) ]
begun_lives (End p n answer ∷ marks) k lt = begun_lives marks k lt
begun_lives (Crash p b ∷ marks) k lt = begun_lives marks k lt

-- where all that live are at most b, so are the numbers that begin
pub numbers_below : (marks : List Mark) (b : ℕ) → ((n : ℕ) (life : Life) → life_of marks n ≡ Some life → n ≤ b)
    → All (λ (x : ℕ). x < b + 1) (begun_numbers marks)
numbers_below marks b most k d lt =
    let one : (life : Life) × (life_of marks (get_or (begun_numbers marks) k 0) ≡ Some life) = begun_lives marks k lt in
    let least : get_or (begun_numbers marks) k 0 ≤ b = most (get_or (begun_numbers marks) k 0) one.0 one.1 in
    let same : get_or (begun_numbers marks) k d ≡ get_or (begun_numbers marks) k 0 = get_or_default (begun_numbers marks) k d 0 lt in
    omega arith

-- a Begin of a number above all others keeps marks well formed
pub well_formed_begin : (marks : List Mark) (p n : ℕ) (b : BrickId) (ask : Ask) → IsWellFormed marks → Places (marks ++ (Begin p n b ask ∷ []))
    → All (λ (x : ℕ). x < n) (begun_numbers marks) → IsWellFormed (marks ++ (Begin p n b ask ∷ []))
well_formed_begin marks p n b ask well places above = record {
  positions_rise = positions_rise (marks ++ (Begin p n b ask ∷ [])) places;
  numbers_rise = subst (λ (xs : List ℕ). IsStrictlyIncreasing xs)
      (sym (begun_numbers-append marks (Begin p n b ask ∷ []))) (increasing_push (begun_numbers marks) n well.numbers_rise above);
  ends_are_of_open = ends_push marks (Begin p n b ask) well.ends_are_of_open
      (λ q k a is. absurd (let never : Begin p n b ask ≡ End q k a = is in cc));
}

-- a Crash keeps marks well formed
pub well_formed_crash : (marks : List Mark) (p : ℕ) (b : BrickId) → IsWellFormed marks → Places (marks ++ (Crash p b ∷ []))
    → IsWellFormed (marks ++ (Crash p b ∷ []))
well_formed_crash marks p b well places = record {
  positions_rise = positions_rise (marks ++ (Crash p b ∷ [])) places;
  numbers_rise = subst (λ (xs : List ℕ). IsStrictlyIncreasing xs)
      (sym (begun_numbers-append marks (Crash p b ∷ []) ∙ append-nil (begun_numbers marks))) well.numbers_rise;
  ends_are_of_open = ends_push marks (Crash p b) well.ends_are_of_open (λ q k a is. absurd (let never : Crash p b ≡ End q k a = is in cc));
}
