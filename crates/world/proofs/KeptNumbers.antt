-- What is kept of the operations of numbers, and the numbers of those that have marks: where one changes, and where one more begins.
use Rattle.std.proofs.Common.{◌≡◌, ◌≢◌, ℕ, zero, suc, ◌+◌, ◌≤◌, ◌⊎◌, ⊎_elim, Bool, true, false, cond, nat_eq, List, [], ◌∷◌, ◌++◌, length, get_or, Option, Some, None, refl, sym, ap, ◌∙◌, subst, arith, add-one}
use Rattle.std.specs.Prelude.{slice_get, if◌then◌else◌}
use Rattle.std.specs.Option.{option_map}
use Rattle.std.proofs.lemmas.Bool.{cond_both, cases_eq, eqb-true}
use Rattle.std.proofs.lemmas.Bool.Decides.{nat_tests}
use Rattle.protocol.specs.Nodes.{put}
use Rattle.protocol.specs.Worlds.{Operation, own_mark}
use Rattle.protocol.specs.Calms.{has_mark, number_marked}
use Rattle.world.specs.declared.histories.OperationRecord.{OperationRecord}
use Rattle.world.specs.Shown.{ChangesAt, TellsOperation, TellsOne, TellsOperations, mark_kept, mark_of_kept, number_at, record_at}
use Rattle.world.proofs.Places.{get_or_end, value_here, value_elsewhere}

-- the last of a list with one more, and the others
slice_last : {A : Type 0} (xs : List A) (x : A) → slice_get (xs ++ x ∷ []) (length xs) ≡ Some x
slice_last [] x = refl
slice_last (y ∷ xs) x = slice_last xs x

slice_other : {A : Type 0} (xs : List A) (x : A) (k : ℕ) → k ≢ length xs → slice_get (xs ++ x ∷ []) k ≡ slice_get xs k
slice_other [] x zero other = absurd (other refl)
slice_other [] x (suc k) other = refl
slice_other (y ∷ xs) x zero other = refl
slice_other (y ∷ xs) x (suc k) other = slice_other xs x k (λ e. other (ap suc e))

get_or_other : {A : Type 0} (xs : List A) (x : A) (k : ℕ) (d : A) → k ≢ length xs → get_or (xs ++ x ∷ []) k d ≡ get_or xs k d
get_or_other [] x zero d other = absurd (other refl)
get_or_other [] x (suc k) d other = refl
get_or_other (y ∷ xs) x zero d other = refl
get_or_other (y ∷ xs) x (suc k) d other = get_or_other xs x k d (λ e. other (ap suc e))

-- so by numbers from 1
record_other : (kept : List OperationRecord) (known : OperationRecord) (n : ℕ) → n ≢ length kept + 1 → record_at (kept ++ known ∷ []) n ≡ record_at kept n
record_other kept known zero other = refl
record_other kept known (suc k) other = slice_other kept known k (λ e. other (omega (arith, e)))

number_last : (numbers : List ℕ) (x : ℕ) → number_at (numbers ++ x ∷ []) (length numbers + 1) ≡ x
number_last numbers x = ap (number_at (numbers ++ x ∷ [])) (add-one (length numbers)) ∙ get_or_end numbers x 0

number_other : (numbers : List ℕ) (x mark : ℕ) → mark ≢ length numbers + 1 → number_at (numbers ++ x ∷ []) mark ≡ number_at numbers mark
number_other numbers x zero other = refl
number_other numbers x (suc k) other = get_or_other numbers x k 0 (λ e. other (omega (arith, e)))

-- what changes at one number changes there alone
pub changed_record : (old new : List OperationRecord) (number : ℕ) (change : OperationRecord → OperationRecord) → ChangesAt old new number change → (n : ℕ)
    → record_at new n ≡ (if nat_eq n number then option_map change (record_at old n) else record_at old n)
changed_record old new number change changed zero = by_number (nat_eq zero number)
  where
    by_number : (b : Bool) → record_at new zero ≡ cond b (option_map change (record_at old zero)) (record_at old zero)
    by_number true = refl
    by_number false = refl
changed_record old new number change changed (suc k) =
    changed k ∙ ap (λ (n : ℕ). if nat_eq n number then option_map change (slice_get old k) else slice_get old k) (add-one k)

-- what is kept of the operation of each number is the machine's also where both change alike at one number
pub known_changed : (old new : List OperationRecord) (operations : ℕ → Option Operation) (number : ℕ) (change : OperationRecord → OperationRecord)
    (next : Option Operation → Option Operation) → next None ≡ None
    → ((known : OperationRecord) (o : Operation) → TellsOperation known o → (p : Operation) × (next (Some o) ≡ Some p) × TellsOperation (change known) p)
    → ChangesAt old new number change → TellsOperations old operations → TellsOperations new (put operations number (next (operations number)))
known_changed old new operations number change next none alike changed tells n =
    subst (λ (r : Option OperationRecord). TellsOne r (put operations number (next (operations number)) n)) (sym (changed_record old new number change changed n))
    (by_number (nat_eq n number) refl)
  where
    changed_one : (found : Option OperationRecord) (o : Option Operation) → TellsOne found o → TellsOne (option_map change found) (next o)
    changed_one None None is = subst (λ (o : Option Operation). TellsOne None o) (sym none) tt
    changed_one (Some known) (Some o) is =
        let after = alike known o is in
        subst (λ (p : Option Operation). TellsOne (Some (change known)) p) (sym after.1) after.2
    changed_one None (Some o) is = absurd is
    changed_one (Some known) None is = absurd is

    by_number : (b : Bool) → nat_eq n number ≡ b
        → TellsOne (cond b (option_map change (record_at old n)) (record_at old n)) (cond b (next (operations number)) (operations n))
    by_number true here =
        subst (λ (k : ℕ). TellsOne (option_map change (record_at old n)) (next (operations k))) (eqb-true n number here)
        (changed_one (record_at old n) (operations n) (tells n))
    by_number false there = tells n

-- so with one operation more
pub known_begun : (kept : List OperationRecord) (operations : ℕ → Option Operation) (begun : ℕ) (known : OperationRecord) (o : Operation)
    → length kept ≡ begun → TellsOperation known o → TellsOperations kept operations → TellsOperations (kept ++ known ∷ []) (put operations (begun + 1) (Some o))
known_begun kept operations begun known o count is tells n = by_number (cases_eq n (begun + 1))
  where
    Goal : ℕ → Type 0
    Goal k = TellsOne (record_at (kept ++ known ∷ []) k) (put operations (begun + 1) (Some o) k)

    last : record_at (kept ++ known ∷ []) (begun + 1) ≡ Some known
    last = ap (record_at (kept ++ known ∷ [])) (add-one begun) ∙ ap (slice_get (kept ++ known ∷ [])) (sym count) ∙ slice_last kept known

    by_number : (n ≡ begun + 1) ⊎ (n ≢ begun + 1) → Goal n
    by_number = ⊎_elim
        (λ (here : n ≡ begun + 1).
        subst (λ (r : Option OperationRecord). TellsOne r (put operations (begun + 1) (Some o) n)) (sym (ap (record_at (kept ++ known ∷ [])) here ∙ last))
        (subst (λ (p : Option Operation). TellsOne (Some known) p) (sym (value_here operations (begun + 1) n (Some o) here)) is))
        (λ (there : n ≢ begun + 1).
        subst (λ (r : Option OperationRecord). TellsOne r (put operations (begun + 1) (Some o) n))
        (sym (record_other kept known n (λ e. there (e ∙ ap (λ (k : ℕ). k + 1) count))))
        (subst (λ (p : Option Operation). TellsOne (record_at kept n) p) (sym (value_elsewhere operations (begun + 1) n (Some o) there)) (tells n)))

-- the operation of which this is kept
pub told_of : (known : OperationRecord) (found : Option Operation) → TellsOne (Some known) found → (o : Operation) × (found ≡ Some o) × TellsOperation known o
told_of known None is = absurd is
told_of known (Some o) is = (o, refl, is)

-- there is none of number 0
pub none_told : (kept : List OperationRecord) (operations : ℕ → Option Operation) → TellsOperations kept operations → operations 0 ≡ None
none_told kept operations tells = by (operations 0) (tells 0)
  where
    by : (found : Option Operation) → TellsOne None found → found ≡ None
    by None is = refl
    by (Some o) is = absurd is

-- the number of an operation's marks is the machine's
pub mark_told : (kept : List OperationRecord) (operations : ℕ → Option Operation) (n : ℕ) → TellsOperations kept operations
    → mark_kept kept n ≡ own_mark n (operations n)
mark_told kept operations n tells = by_record (record_at kept n) (operations n) refl (tells n)
  where
    by_record : (found : Option OperationRecord) (o : Option Operation) → record_at kept n ≡ found → TellsOne found o → mark_kept kept n ≡ own_mark n o
    by_record None None at is = ap (λ (r : Option OperationRecord). mark_of_kept n r) at
    by_record (Some known) (Some o) at is = ap (λ (r : Option OperationRecord). mark_of_kept n r) at ∙ is.mark
    by_record None (Some o) at is = absurd is
    by_record (Some known) None at is = absurd is

-- a change that keeps the number of an operation's marks
abbrev pub KeepsMarks : (Option Operation → Option Operation) → Type 0
KeepsMarks next = (mark : ℕ) (found : Option Operation) → has_mark mark (next found) ≡ has_mark mark found

-- where it changes one operation the numbers of marks stay
numbers_stay : (f g : ℕ → Option Operation) (mark n : ℕ) → ((k : ℕ) → k ≤ n → has_mark mark (f k) ≡ has_mark mark (g k))
    → number_marked f mark n ≡ number_marked g mark n
numbers_stay f g mark zero same = refl
numbers_stay f g mark (suc n) same =
    ap (λ (b : Bool). if b then suc n else number_marked f mark n) (same (suc n) (omega arith))
    ∙ ap (λ (k : ℕ). if has_mark mark (g (suc n)) then suc n else k) (numbers_stay f g mark n (λ k low. same k (omega (arith, low))))

pub marked_changed : (operations : ℕ → Option Operation) (number : ℕ) (next : Option Operation → Option Operation) → KeepsMarks next → (mark n : ℕ)
    → number_marked (put operations number (next (operations number))) mark n ≡ number_marked operations mark n
marked_changed operations number next keeps mark n =
    numbers_stay (put operations number (next (operations number))) operations mark n (λ k low.
    cond_both (nat_eq k number) (next (operations number)) (operations k) (λ (x : Option Operation). has_mark mark x ≡ has_mark mark (operations k))
    (λ here. keeps mark (operations number) ∙ ap (λ (j : ℕ). has_mark mark (operations j)) (sym (eqb-true k number here)))
    (λ there. refl))

-- the numbers of marks with one operation more
marked_more : (operations : ℕ → Option Operation) (begun : ℕ) (o : Operation) (mark : ℕ)
    → number_marked (put operations (begun + 1) (Some o)) mark (begun + 1)
    ≡ (if has_mark mark (Some o) then begun + 1 else number_marked operations mark begun)
marked_more operations begun o mark =
    ap (number_marked (put operations (begun + 1) (Some o)) mark) (add-one begun)
    ∙ ap (λ (x : Option Operation). if has_mark mark x then suc begun else number_marked (put operations (begun + 1) (Some o)) mark begun)
    (value_here operations (begun + 1) (suc begun) (Some o) (sym (add-one begun)))
    ∙ ap (λ (k : ℕ). if has_mark mark (Some o) then suc begun else k)
    (numbers_stay (put operations (begun + 1) (Some o)) operations mark begun (λ k low.
    ap (has_mark mark) (value_elsewhere operations (begun + 1) k (Some o) (λ e. omega (arith, low, e)))))
    ∙ ap (λ (k : ℕ). if has_mark mark (Some o) then k else number_marked operations mark begun) (sym (add-one begun))

-- one that has no marks
pub marked_unmarked : (operations : ℕ → Option Operation) (begun : ℕ) (o : Operation) → o.mark ≡ 0 → (mark : ℕ)
    → number_marked (put operations (begun + 1) (Some o)) mark (begun + 1) ≡ number_marked operations mark begun
marked_unmarked operations begun o none mark =
    marked_more operations begun o mark
    ∙ ap (λ (m : ℕ). if has_mark mark (Some (record o { mark = m })) then begun + 1 else number_marked operations mark begun) none

-- one that has the next
pub marked_next : (numbers : List ℕ) (operations : ℕ → Option Operation) (begun number : ℕ) (o : Operation) → o.mark ≡ length numbers + 1 → number ≡ begun + 1
    → ((mark : ℕ) → number_at numbers mark ≡ number_marked operations mark begun) → (mark : ℕ)
    → number_at (numbers ++ number ∷ []) mark ≡ number_marked (put operations (begun + 1) (Some o)) mark (begun + 1)
marked_next numbers operations begun number o own is are mark =
    by_mark (cases_eq mark (length numbers + 1))
    ∙ ap (λ (m : ℕ). if has_mark mark (Some (record o { mark = m })) then begun + 1 else number_marked operations mark begun) (sym own)
    ∙ sym (marked_more operations begun o mark)
  where
    next : ℕ
    next = length numbers + 1

    by_mark : (mark ≡ next) ⊎ (mark ≢ next)
        → number_at (numbers ++ number ∷ []) mark ≡ (if has_mark mark (Some (record o { mark = next })) then begun + 1 else number_marked operations mark begun)
    by_mark = ⊎_elim
        (λ (here : mark ≡ next).
        ap (number_at (numbers ++ number ∷ [])) here ∙ number_last numbers number ∙ is
        ∙ sym (ap (λ (b : Bool). if b then begun + 1 else number_marked operations mark begun)
        (let e : has_mark mark (Some (record o { mark = next })) ≡ true = grind (arith, nat_tests, here) in e)))
        (λ (there : mark ≢ next).
        number_other numbers number mark there ∙ are mark
        ∙ sym (ap (λ (b : Bool). if b then begun + 1 else number_marked operations mark begun)
        (let e : has_mark mark (Some (record o { mark = next })) ≡ false = grind (arith, nat_tests, there) in e)))
