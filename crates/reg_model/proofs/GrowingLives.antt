-- Lives of operations as marks are added: what becomes of each, and where it ends.
use Rattle.std.proofs.Common.{◌≡◌, ℕ, suc, ◌+◌, ◌≤◌, Bool, true, false, cond, List, [], ◌∷◌, ◌++◌, length, Option, Some, refl, sym, ap, subst, arith, ◌≢◌, zero, take, nat_eq, None, ◌∙◌, ◌⊎◌, inl, inr}
use Rattle.std.specs.Prelude.{slice_get, nat_eq}
use Rattle.std.proofs.lemmas.Bool.{cond_both, eqb-true, eq-eqb, ne_eqb}
use Rattle.fab_base.specs.declared.answers.Answer.{Answer}
use Rattle.reg_model.specs.declared.marks.Mark.{Mark}
use Rattle.reg_model.specs.declared.marks.Mark.TheVariants.{Begin, End, Crash}
use Rattle.reg_model.specs.Marks.{Life, life_of, Ending, Answered, Interrupted, Unended, ending_of, end_of, IsOpen, IsUnended, position_of, IsWellFormed}
use Rattle.reg_model.specs.Walk.{last_of}
use Rattle.fab_base.specs.declared.identities.BrickId.{BrickId}
use Rattle.fab_base.specs.declared.asks.Ask.{Ask}
use Rattle.reg_model.specs.Strict.{IsAnswered}

-- an ending once more marks have come
abbrev pub onward : Ending → List Mark → ℕ → ℕ → Ending
onward (Answered p answer) more n brick = Answered p answer
onward (Interrupted p) more n brick = Interrupted p
onward (Unended past) more n brick = ending_of more n brick past

-- an operation's ending goes on from where it stood
pub ending_of-append : (marks more : List Mark) (n brick past : ℕ)
    → ending_of (marks ++ more) n brick past ≡ onward (ending_of marks n brick past) more n brick
ending_of-append [] more n brick past = refl
ending_of-append (Begin p k b ask ∷ marks) more n brick past = ending_of-append marks more n brick (p + 1)
ending_of-append (End p k answer ∷ marks) more n brick past =
    elim (nat_eq k n) as (λ t. cond t (Answered p answer) (ending_of (marks ++ more) n brick (p + 1))
    ≡ onward (cond t (Answered p answer) (ending_of marks n brick (p + 1))) more n brick)
    [ true ↦ refl | false ↦ ending_of-append marks more n brick (p + 1) ]
ending_of-append (Crash p b ∷ marks) more n brick past =
    elim (nat_eq b.0 brick) as (λ t. cond t (Interrupted p) (ending_of (marks ++ more) n brick (p + 1))
    ≡ onward (cond t (Interrupted p) (ending_of marks n brick (p + 1))) more n brick)
    [ true ↦ refl | false ↦ ending_of-append marks more n brick (p + 1) ]

-- the life with another ending
abbrev pub with_ending : Life → Ending → Life
with_ending life ending = record { begin = life.begin; brick = life.brick; ask = life.ask; ending = ending }

-- a life once more marks have come
abbrev pub life_onward : Option Life → List Mark → ℕ → Option Life
life_onward None more n = life_of more n
life_onward (Some life) more n = Some (with_ending life (onward life.ending more n life.brick))

-- an operation's life goes on from where it stood
pub life_of-append : (marks more : List Mark) (n : ℕ) → life_of (marks ++ more) n ≡ life_onward (life_of marks n) more n
life_of-append [] more n = refl
life_of-append (Begin p k b ask ∷ marks) more n =
    elim (nat_eq k n) as (λ t. cond t (Some (record { begin = p; brick = b.0; ask = ask; ending = ending_of (marks ++ more) n b.0 (p + 1) }))
    (life_of (marks ++ more) n)
    ≡ life_onward (cond t (Some (record { begin = p; brick = b.0; ask = ask; ending = ending_of marks n b.0 (p + 1) })) (life_of marks n)) more n) [
      | true ↦ ap (λ (e : Ending). Some (record { begin = p; brick = b.0; ask = ask; ending = e })) (ending_of-append marks more n b.0 (p + 1))
      | false ↦ life_of-append marks more n
    ]
life_of-append (End p k answer ∷ marks) more n = life_of-append marks more n
life_of-append (Crash p b ∷ marks) more n = life_of-append marks more n

-- an ending that more marks left as it was, but for how far an open operation has come
abbrev pub EndingStays : Ending → Ending → Type 0
EndingStays (Answered p answer) later = later ≡ Answered p answer
EndingStays (Interrupted p) later = later ≡ Interrupted p
EndingStays (Unended past) later = IsUnended later

-- a life that more marks left as it was, but for how far an open operation has come
pub record LifeStays (life later : Life) : Type 0 where
  pub begin : later.begin ≡ life.begin
  pub brick : later.brick ≡ life.brick
  pub ask : later.ask ≡ life.ask
  pub ending : EndingStays life.ending later.ending

-- the same of an operation, whether it has begun or not
abbrev pub Stays : Option Life → Option Life → Type 0
Stays None later = later ≡ None
Stays (Some life) later = (l : Life) × (later ≡ Some l) × LifeStays life l

-- an ending stays itself
pub EndingStays-refl : (e : Ending) → EndingStays e e
EndingStays-refl (Answered p answer) = refl
EndingStays-refl (Interrupted p) = refl
EndingStays-refl (Unended past) = tt

pub Stays-refl : (life : Option Life) → Stays life life
Stays-refl None = refl
Stays-refl (Some life) = (life, refl, record { begin = refl; brick = refl; ask = refl; ending = EndingStays-refl life.ending })

-- what stays is answered as it was, and open as it was
pub EndingStays-answered : (e later : Ending) → EndingStays e later → IsAnswered e → IsAnswered later
EndingStays-answered (Answered p answer) later stays is = subst (λ (x : Ending). IsAnswered x) (sym stays) is
EndingStays-answered (Interrupted p) later stays is = absurd is
EndingStays-answered (Unended past) later stays is = absurd is

-- no ending is both open and answered
pub unended_not_answered : (e : Ending) → IsUnended e → IsAnswered e → ⊥
unended_not_answered (Answered p answer) open' is = open'
unended_not_answered (Interrupted p) open' is = open'
unended_not_answered (Unended past) open' is = is

pub EndingStays-answered_before : (e later : Ending) → EndingStays e later → IsAnswered later → IsAnswered e
EndingStays-answered_before (Answered p answer) later stays is = subst (λ (x : Ending). IsAnswered x) stays is
EndingStays-answered_before (Interrupted p) later stays is = subst (λ (x : Ending). IsAnswered x) stays is
EndingStays-answered_before (Unended past) later stays is = absurd (unended_not_answered later stays is)

pub EndingStays-open : (e later : Ending) → EndingStays e later → IsUnended e → IsUnended later
EndingStays-open (Answered p answer) later stays is = absurd is
EndingStays-open (Interrupted p) later stays is = absurd is
EndingStays-open (Unended past) later stays is = stays

pub EndingStays-open_before : (e later : Ending) → EndingStays e later → IsUnended later → IsUnended e
EndingStays-open_before (Answered p answer) later stays is = subst (λ (x : Ending). IsUnended x) stays is
EndingStays-open_before (Interrupted p) later stays is = subst (λ (x : Ending). IsUnended x) stays is
EndingStays-open_before (Unended past) later stays is = tt

-- the marks that do not touch operation n: another's Begin or End (what a Crash touches, Stays-crash and life_of-crash say)
abbrev pub LeavesAlone : ℕ → Mark → Type 0
LeavesAlone n (Begin p k b ask) = k ≢ n
LeavesAlone n (End p k answer) = k ≢ n
LeavesAlone n (Crash p b) = ⊥

alone_ending : (e : Ending) (mark : Mark) (n brick : ℕ) → LeavesAlone n mark → EndingStays e (onward e (mark ∷ []) n brick)
alone_ending (Answered p answer) mark n brick alone = refl
alone_ending (Interrupted p) mark n brick alone = refl
alone_ending (Unended past) (Begin q k b ask) n brick alone = tt
alone_ending (Unended past) (End q k answer) n brick alone =
    subst (λ (t : Bool). IsUnended (cond t (Answered q answer) (Unended (q + 1)))) (sym (ne_eqb k n alone)) tt
alone_ending (Unended past) (Crash q b) n brick alone = absurd alone

alone_none : (mark : Mark) (n : ℕ) → LeavesAlone n mark → life_of (mark ∷ []) n ≡ None
alone_none (Begin q k b ask) n alone =
    ap (λ (t : Bool). cond t (Some (record { begin = q; brick = b.0; ask = ask; ending = Unended (q + 1) })) None) (ne_eqb k n alone)
alone_none (End q k answer) n alone = refl
alone_none (Crash q b) n alone = refl

alone_life : (life : Option Life) (mark : Mark) (n : ℕ) → LeavesAlone n mark → Stays life (life_onward life (mark ∷ []) n)
alone_life None mark n alone = alone_none mark n alone
alone_life (Some life) mark n alone = (
  with_ending life (onward life.ending (mark ∷ []) n life.brick),
  refl,
  record { begin = refl; brick = refl; ask = refl; ending = alone_ending life.ending mark n life.brick alone },
)

-- another operation's mark leaves an operation's life as it was
pub Stays-push : (marks : List Mark) (mark : Mark) (n : ℕ) → LeavesAlone n mark → Stays (life_of marks n) (life_of (marks ++ (mark ∷ [])) n)
Stays-push marks mark n alone =
    subst (λ (l : Option Life). Stays (life_of marks n) l) (sym (life_of-append marks (mark ∷ []) n)) (alone_life (life_of marks n) mark n alone)

-- a Begin of a new number makes a life, which is open
pub life_of-begin : (marks : List Mark) (p n : ℕ) (b : BrickId) (ask : Ask) → life_of marks n ≡ None
    → life_of (marks ++ (Begin p n b ask ∷ [])) n ≡ Some (record { begin = p; brick = b.0; ask = ask; ending = Unended (p + 1) })
life_of-begin marks p n b ask none =
    life_of-append marks (Begin p n b ask ∷ []) n
    ∙ ap (λ (l : Option Life). life_onward l (Begin p n b ask ∷ []) n) none
    ∙ ap (λ (t : Bool). cond t (Some (record { begin = p; brick = b.0; ask = ask; ending = Unended (p + 1) })) None) (eq-eqb n n refl)

end_ending : (e : Ending) (p n brick : ℕ) (answer : Answer) → IsUnended e → onward e (End p n answer ∷ []) n brick ≡ Answered p answer
end_ending (Answered q a) p n brick answer is = absurd is
end_ending (Interrupted q) p n brick answer is = absurd is
end_ending (Unended past) p n brick answer is = ap (λ (t : Bool). cond t (Answered p answer) (Unended (p + 1))) (eq-eqb n n refl)

-- an End of an open operation makes its ending that answer
pub life_of-end : (marks : List Mark) (p n : ℕ) (answer : Answer) (life : Life) → life_of marks n ≡ Some life → IsUnended life.ending
    → life_of (marks ++ (End p n answer ∷ [])) n ≡ Some (with_ending life (Answered p answer))
life_of-end marks p n answer life is open' =
    life_of-append marks (End p n answer ∷ []) n
    ∙ ap (λ (l : Option Life). life_onward l (End p n answer ∷ []) n) is
    ∙ ap (λ (e : Ending). Some (with_ending life e)) (end_ending life.ending p n life.brick answer open')

crash_ending : (e : Ending) (p n brick : ℕ) (b : BrickId) → (IsUnended e → b.0 ≢ brick) → EndingStays e (onward e (Crash p b ∷ []) n brick)
crash_ending (Answered q answer) p n brick b other = refl
crash_ending (Interrupted q) p n brick b other = refl
crash_ending (Unended past) p n brick b other =
    subst (λ (t : Bool). IsUnended (cond t (Interrupted p) (Unended (p + 1)))) (sym (ne_eqb b.0 brick (other tt))) tt

crash_life : (life : Option Life) (p n : ℕ) (b : BrickId) → ((l : Life) → life ≡ Some l → IsOpen (Some l) → b.0 ≢ l.brick)
    → Stays life (life_onward life (Crash p b ∷ []) n)
crash_life None p n b other = refl
crash_life (Some life) p n b other = (
  with_ending life (onward life.ending (Crash p b ∷ []) n life.brick),
  refl,
  record { begin = refl; brick = refl; ask = refl; ending = crash_ending life.ending p n life.brick b (other life refl) },
)

-- a Crash leaves an operation's life as it was, where the operation is another brick's, or is not open
pub Stays-crash : (marks : List Mark) (p n : ℕ) (b : BrickId) → ((life : Life) → life_of marks n ≡ Some life → IsOpen (Some life) → b.0 ≢ life.brick)
    → Stays (life_of marks n) (life_of (marks ++ (Crash p b ∷ [])) n)
Stays-crash marks p n b other =
    subst (λ (l : Option Life). Stays (life_of marks n) l) (sym (life_of-append marks (Crash p b ∷ []) n)) (crash_life (life_of marks n) p n b other)

interrupted_ending : (e : Ending) (p n brick : ℕ) (b : BrickId) → IsUnended e → b.0 ≡ brick → onward e (Crash p b ∷ []) n brick ≡ Interrupted p
interrupted_ending (Answered q a) p n brick b is at = absurd is
interrupted_ending (Interrupted q) p n brick b is at = absurd is
interrupted_ending (Unended past) p n brick b is at = ap (λ (t : Bool). cond t (Interrupted p) (Unended (p + 1))) (eq-eqb b.0 brick at)

-- a Crash of the brick of an open operation interrupts it
pub life_of-crash : (marks : List Mark) (p n : ℕ) (b : BrickId) (life : Life) → life_of marks n ≡ Some life → IsUnended life.ending → b.0 ≡ life.brick
    → life_of (marks ++ (Crash p b ∷ [])) n ≡ Some (with_ending life (Interrupted p))
life_of-crash marks p n b life is open' at =
    life_of-append marks (Crash p b ∷ []) n
    ∙ ap (λ (l : Option Life). life_onward l (Crash p b ∷ []) n) is
    ∙ ap (λ (e : Ending). Some (with_ending life e)) (interrupted_ending life.ending p n life.brick b open' at)

crash_none : (old : Option Life) (p n : ℕ) (b : BrickId) (life : Life) → life_onward old (Crash p b ∷ []) n ≡ Some life → (l : Life) × (old ≡ Some l)
crash_none None p n b life is = absurd (let never : None ≡ Some life = is in cc)
crash_none (Some l) p n b life is = (l, refl)

-- what lives after a Crash lived before
pub lived_before_crash : (marks : List Mark) (p n : ℕ) (b : BrickId) (life : Life) → life_of (marks ++ (Crash p b ∷ [])) n ≡ Some life
    → (l : Life) × (life_of marks n ≡ Some l)
lived_before_crash marks p n b life is = crash_none (life_of marks n) p n b life (sym (life_of-append marks (Crash p b ∷ []) n) ∙ is)

-- an ending is open, or is not
pub cases_open : (e : Ending) → IsUnended e ⊎ (IsUnended e → ⊥)
cases_open (Answered p answer) = inr (λ is. is)
cases_open (Interrupted p) = inr (λ is. is)
cases_open (Unended past) = inl tt

-- what lives after more marks lived before, where the marks left it alone
pub Stays-before : (old later : Option Life) (life : Life) → Stays old later → later ≡ Some life → (l : Life) × (old ≡ Some l)
Stays-before None later life stays is = absurd (let never : None ≡ Some life = sym stays ∙ is in cc)
Stays-before (Some l) later life stays is = (l, refl)

-- the marks around one of them
around : (marks : List Mark) (k : ℕ) (mark : Mark) → slice_get marks k ≡ Some mark → (rest : List Mark) × (take k marks ++ (mark ∷ rest) ≡ marks)
around [] k mark is = cc
around (m ∷ marks) zero mark is = (marks, (let same : mark ≡ m = cc in ap (λ (x : Mark). x ∷ marks) same))
around (m ∷ marks) (suc k) mark is = let rest = around marks k mark is in (rest.0, ap (λ (l : List Mark). m ∷ l) rest.1)

end_shuts : (e : Ending) (p n brick : ℕ) (answer : Answer) (more : List Mark) → IsUnended e → IsUnended (onward e (End p n answer ∷ more) n brick) → ⊥
end_shuts (Answered q a) p n brick answer more was is = was
end_shuts (Interrupted q) p n brick answer more was is = was
end_shuts (Unended past) p n brick answer more was is =
    subst (λ (t : Bool). IsUnended (cond t (Answered p answer) (ending_of more n brick (p + 1)))) (eq-eqb n n refl) is

life_shuts : (life : Option Life) (p n : ℕ) (answer : Answer) (more : List Mark) → IsOpen life → IsOpen (life_onward life (End p n answer ∷ more) n)
    → ⊥
life_shuts None p n answer more was is = was
life_shuts (Some life) p n answer more was is = end_shuts life.ending p n life.brick answer more was is

-- an operation that has its End is not open
pub ended_not_open : (marks : List Mark) (k p n : ℕ) (answer : Answer) → IsWellFormed marks → slice_get marks k ≡ Some (End p n answer)
    → IsOpen (life_of marks n) → ⊥
ended_not_open marks k p n answer well is open' =
    let parts = around marks k (End p n answer) is in
    life_shuts (life_of (take k marks) n) p n answer parts.0 (well.ends_are_of_open k p n answer is)
    (subst (λ (l : Option Life). IsOpen l) (life_of-append (take k marks) (End p n answer ∷ parts.0) n)
    (subst (λ (l : List Mark). IsOpen (life_of l n)) (sym parts.1) open'))

-- each mark's position is its place, from p
abbrev pub ArePlaced : ℕ → List Mark → Type 0
ArePlaced p marks = (k : ℕ) (mark : Mark) → slice_get marks k ≡ Some mark → position_of mark ≡ p + k

placed_rest : (p q : ℕ) (mark : Mark) (marks : List Mark) → q ≡ position_of mark → ArePlaced p (mark ∷ marks) → ArePlaced (q + 1) marks
placed_rest p q mark marks e placed k found is =
    let here : position_of mark ≡ p + 0 = placed 0 mark refl in
    let there : position_of found ≡ p + suc k = placed (suc k) found is in
    omega arith

placed_first : (p : ℕ) (mark : Mark) (marks : List Mark) → ArePlaced p (mark ∷ marks) → position_of mark ≡ p
placed_first p mark marks placed = let here : position_of mark ≡ p + 0 = placed 0 mark refl in omega arith

-- two choices by one test
choose_le : (b : Bool) (x y u v : Ending) → end_of x ≤ end_of u → end_of y ≤ end_of v → end_of (cond b x y) ≤ end_of (cond b u v)
choose_le true x y u v h k = h
choose_le false x y u v h k = k

choose_le_one : (b : Bool) (p : ℕ) (u v : Ending) → p ≤ end_of u → p ≤ end_of v → p ≤ end_of (cond b u v)
choose_le_one true p u v h k = h
choose_le_one false p u v h k = k

-- a mark added does not bring an end forward
ending_grows : (marks : List Mark) (mark : Mark) (n brick past : ℕ) → ArePlaced past marks → past + length marks ≤ position_of mark
    → end_of (ending_of marks n brick past) ≤ end_of (ending_of (marks ++ (mark ∷ [])) n brick past)
ending_grows [] (Begin p k b ask) n brick past placed at = omega arith
ending_grows [] (End p k answer) n brick past placed at =
    choose_le_one (nat_eq k n) past (Answered p answer) (Unended (p + 1)) (omega arith) (omega arith)
ending_grows [] (Crash p b) n brick past placed at =
    choose_le_one (nat_eq b.0 brick) past (Interrupted p) (Unended (p + 1)) (omega arith) (omega arith)
ending_grows (Begin p k b ask ∷ marks) mark n brick past placed at =
    let here : p ≡ past = placed_first past (Begin p k b ask) marks placed in
    ending_grows marks mark n brick (p + 1) (placed_rest past p (Begin p k b ask) marks refl placed) (omega arith)
ending_grows (End p k answer ∷ marks) mark n brick past placed at =
    let here : p ≡ past = placed_first past (End p k answer) marks placed in
    choose_le (nat_eq k n) (Answered p answer) (ending_of marks n brick (p + 1)) (Answered p answer)
    (ending_of (marks ++ (mark ∷ [])) n brick (p + 1))
    (omega arith)
    (ending_grows marks mark n brick (p + 1) (placed_rest past p (End p k answer) marks refl placed) (omega arith))
ending_grows (Crash p b ∷ marks) mark n brick past placed at =
    let here : p ≡ past = placed_first past (Crash p b) marks placed in
    choose_le (nat_eq b.0 brick) (Interrupted p) (ending_of marks n brick (p + 1)) (Interrupted p) (ending_of (marks ++ (mark ∷ [])) n brick (p + 1))
    (omega arith)
    (ending_grows marks mark n brick (p + 1) (placed_rest past p (Crash p b) marks refl placed) (omega arith))

choose_life : (b : Bool) (x u : Life) (y v : Option Life) → end_of x.ending ≤ end_of u.ending → last_of y ≤ last_of v
    → last_of (cond b (Some x) y) ≤ last_of (cond b (Some u) v)
choose_life true x u y v h k = h
choose_life false x u y v h k = k

life_grows : (marks : List Mark) (mark : Mark) (n p : ℕ) → ArePlaced p marks → p + length marks ≤ position_of mark
    → last_of (life_of marks n) ≤ last_of (life_of (marks ++ (mark ∷ [])) n)
life_grows [] mark n p placed at = omega arith
life_grows (Begin q k b ask ∷ marks) mark n p placed at =
    let here : q ≡ p = placed_first p (Begin q k b ask) marks placed in
    choose_life (nat_eq k n)
    (record { begin = q; brick = b.0; ask = ask; ending = ending_of marks n b.0 (q + 1) })
    (record { begin = q; brick = b.0; ask = ask; ending = ending_of (marks ++ (mark ∷ [])) n b.0 (q + 1) })
    (life_of marks n) (life_of (marks ++ (mark ∷ [])) n)
    (ending_grows marks mark n b.0 (q + 1) (placed_rest p q (Begin q k b ask) marks refl placed) (omega arith))
    (life_grows marks mark n (q + 1) (placed_rest p q (Begin q k b ask) marks refl placed) (omega arith))
life_grows (End q k answer ∷ marks) mark n p placed at =
    let here : q ≡ p = placed_first p (End q k answer) marks placed in
    life_grows marks mark n (q + 1) (placed_rest p q (End q k answer) marks refl placed) (omega arith)
life_grows (Crash q b ∷ marks) mark n p placed at =
    let here : q ≡ p = placed_first p (Crash q b) marks placed in
    life_grows marks mark n (q + 1) (placed_rest p q (Crash q b) marks refl placed) (omega arith)

-- a mark added at its place does not bring the last position of an operation forward
pub last_grows : (marks : List Mark) (mark : Mark) (n : ℕ) → ArePlaced 0 marks → position_of mark ≡ length marks
    → last_of (life_of marks n) ≤ last_of (life_of (marks ++ (mark ∷ [])) n)
last_grows marks mark n placed at = life_grows marks mark n 0 placed (omega arith)

-- an open ending is one past the last mark
unended_last : (marks : List Mark) (n brick past : ℕ) → ArePlaced past marks → IsUnended (ending_of marks n brick past)
    → end_of (ending_of marks n brick past) ≡ past + length marks
unended_last [] n brick past placed unended = omega arith
unended_last (Begin p k b ask ∷ marks) n brick past placed unended =
    let here : p ≡ past = placed_first past (Begin p k b ask) marks placed in
    let rest : end_of (ending_of marks n brick (p + 1)) ≡ p + 1 + length marks
    = unended_last marks n brick (p + 1) (placed_rest past p (Begin p k b ask) marks refl placed) unended in
    omega arith
unended_last (End p k answer ∷ marks) n brick past placed unended =
    cond_both (nat_eq k n) (Answered p answer) (ending_of marks n brick (p + 1))
    (λ (z : Ending). IsUnended z → end_of z ≡ past + suc (length marks))
    (λ is h. absurd h)
    (λ isnt h.
    let here : p ≡ past = placed_first past (End p k answer) marks placed in
    let rest : end_of (ending_of marks n brick (p + 1)) ≡ p + 1 + length marks
    = unended_last marks n brick (p + 1) (placed_rest past p (End p k answer) marks refl placed) h in
    omega arith)
    unended
unended_last (Crash p b ∷ marks) n brick past placed unended =
    cond_both (nat_eq b.0 brick) (Interrupted p) (ending_of marks n brick (p + 1))
    (λ (z : Ending). IsUnended z → end_of z ≡ past + suc (length marks))
    (λ is h. absurd h)
    (λ isnt h.
    let here : p ≡ past = placed_first past (Crash p b) marks placed in
    let rest : end_of (ending_of marks n brick (p + 1)) ≡ p + 1 + length marks
    = unended_last marks n brick (p + 1) (placed_rest past p (Crash p b) marks refl placed) h in
    omega arith)
    unended

open_at : (marks : List Mark) (n p : ℕ) (life : Life) → ArePlaced p marks → life_of marks n ≡ Some life → IsUnended life.ending
    → end_of life.ending ≡ p + length marks
open_at [] n p life placed is unended = cc
open_at (Begin q k b ask ∷ marks) n p life placed is unended =
    cond_both (nat_eq k n) (Some (record { begin = q; brick = b.0; ask = ask; ending = ending_of marks n b.0 (q + 1) })) (life_of marks n)
    (λ (z : Option Life). z ≡ Some life → end_of life.ending ≡ p + suc (length marks))
    (λ same e.
    let here : q ≡ p = placed_first p (Begin q k b ask) marks placed in
    let ending : ending_of marks n b.0 (q + 1) ≡ life.ending = cc in
    let held : IsUnended (ending_of marks n b.0 (q + 1)) = subst IsUnended (sym ending) unended in
    let rest : end_of (ending_of marks n b.0 (q + 1)) ≡ q + 1 + length marks
    = unended_last marks n b.0 (q + 1) (placed_rest p q (Begin q k b ask) marks refl placed) held in
    let ends : end_of (ending_of marks n b.0 (q + 1)) ≡ end_of life.ending = ap end_of ending in
    omega arith)
    (λ other e.
    let here : q ≡ p = placed_first p (Begin q k b ask) marks placed in
    let rest : end_of life.ending ≡ q + 1 + length marks
    = open_at marks n (q + 1) life (placed_rest p q (Begin q k b ask) marks refl placed) e unended in
    omega arith)
    is
open_at (End q k answer ∷ marks) n p life placed is unended =
    let here : q ≡ p = placed_first p (End q k answer) marks placed in
    let rest : end_of life.ending ≡ q + 1 + length marks
    = open_at marks n (q + 1) life (placed_rest p q (End q k answer) marks refl placed) is unended in
    omega arith
open_at (Crash q b ∷ marks) n p life placed is unended =
    let here : q ≡ p = placed_first p (Crash q b) marks placed in
    let rest : end_of life.ending ≡ q + 1 + length marks
    = open_at marks n (q + 1) life (placed_rest p q (Crash q b) marks refl placed) is unended in
    omega arith

-- the last position of an open operation is one past the last mark
pub open_last : (marks : List Mark) (n : ℕ) (life : Life) → ArePlaced 0 marks → life_of marks n ≡ Some life → IsOpen (Some life)
    → last_of (life_of marks n) ≡ length marks
open_last marks n life placed is unended =
    let last : last_of (life_of marks n) ≡ last_of (Some life) = ap last_of is in
    let at : end_of life.ending ≡ 0 + length marks = open_at marks n 0 life placed is unended in
    omega arith

-- an answered ending is that of an End mark
ending_end : (marks : List Mark) (n brick past q : ℕ) (answer : Answer) → ending_of marks n brick past ≡ Answered q answer
    → (k : ℕ) × (slice_get marks k ≡ Some (End q n answer))
ending_end [] n brick past q answer is = cc
ending_end (Begin p k b ask ∷ marks) n brick past q answer is =
    let rest = ending_end marks n brick (p + 1) q answer is in (suc rest.0, rest.1)
ending_end (End p k a ∷ marks) n brick past q answer is =
    cond_both (nat_eq k n) (Answered p a) (ending_of marks n brick (p + 1))
    (λ (z : Ending). z ≡ Answered q answer → (j : ℕ) × (slice_get (End p k a ∷ marks) j ≡ Some (End q n answer)))
    (λ same e. let number : k ≡ n = eqb-true k n same in (0, cc))
    (λ other e. let rest = ending_end marks n brick (p + 1) q answer e in (suc rest.0, rest.1))
    is
ending_end (Crash p b ∷ marks) n brick past q answer is =
    cond_both (nat_eq b.0 brick) (Interrupted p) (ending_of marks n brick (p + 1))
    (λ (z : Ending). z ≡ Answered q answer → (j : ℕ) × (slice_get (Crash p b ∷ marks) j ≡ Some (End q n answer)))
    (λ same e. cc)
    (λ other e. let rest = ending_end marks n brick (p + 1) q answer e in (suc rest.0, rest.1))
    is

-- an answered operation has its End mark
pub answered_has_end : (marks : List Mark) (n q : ℕ) (answer : Answer) (life : Life) → life_of marks n ≡ Some life → life.ending ≡ Answered q answer
    → (k : ℕ) × (slice_get marks k ≡ Some (End q n answer))
answered_has_end [] n q answer life is ended = cc
answered_has_end (Begin p k b ask ∷ marks) n q answer life is ended =
    cond_both (nat_eq k n) (Some (record { begin = p; brick = b.0; ask = ask; ending = ending_of marks n b.0 (p + 1) })) (life_of marks n)
    (λ (z : Option Life). z ≡ Some life → (j : ℕ) × (slice_get (Begin p k b ask ∷ marks) j ≡ Some (End q n answer)))
    (λ same e.
    let ending : ending_of marks n b.0 (p + 1) ≡ Answered q answer = cc in
    let rest = ending_end marks n b.0 (p + 1) q answer ending in (suc rest.0, rest.1))
    (λ other e. let rest = answered_has_end marks n q answer life e ended in (suc rest.0, rest.1))
    is
answered_has_end (End p k a ∷ marks) n q answer life is ended =
    let rest = answered_has_end marks n q answer life is ended in (suc rest.0, rest.1)
answered_has_end (Crash p b ∷ marks) n q answer life is ended =
    let rest = answered_has_end marks n q answer life is ended in (suc rest.0, rest.1)
