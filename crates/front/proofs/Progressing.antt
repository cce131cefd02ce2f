-- How a range goes on, by what its fields say.
use Rattle.std.proofs.Common.{◌≡◌, ℕ, ◌+◌, ◌-◌, ◌≤◌, true, false, List, [], ◌++◌, Option, Some, None, is_some, Result, Ok, option_map, refl, sym, ap, subst, ◌∙◌, arith}
use Rattle.std.specs.Option.{ForSome}
use Rattle.fab_base.specs.declared.answers.Answer.{Answer}
use Rattle.fab_base.specs.declared.answers.Answer.TheVariants as answer
use Rattle.fab_base.specs.declared.answers.Refusal.{Refusal}
use Rattle.front.specs.declared.pieces.StripePart.{StripePart}
use Rattle.front.specs.declared.steps.Halt.{Halt}
use Rattle.front.specs.declared.steps.RangeAnswer.{RangeAnswer}
use Rattle.front.specs.declared.steps.RangeAnswer.TheVariants as range
use Rattle.front.specs.declared.steps.RangeStep.TheVariants as step
use Rattle.front.specs.Halts.{answer_of}
use Rattle.front.specs.Pieces.{Wish, Part, ask_of, parts_from}
use Rattle.front.specs.Ranges.{Progress, next_by, next_of, ask_in, next_ask, stopped, after_by, after_end, FitsFirst, FitsEnd}
use Rattle.front.specs.Inside.{progress_of, first_piece}
use Rattle.front.proofs.PartLaws.{left_first, left_none, ended}

-- a range that stops has nothing left
pub stops : (wish : Wish) (total done : ℕ) (came : List ℕ) (before : Option Halt) (halt : Halt) (p : Progress)
    → progress_of wish total done came before ≡ p → progress_of wish done done came (Some halt) ≡ stopped p halt
stops wish total done came before halt p is =
    let none : done - done ≡ 0 = omega arith in
    let left : parts_from wish done (done - done) 0 ≡ [] = ap (λ k. parts_from wish done k 0) none ∙ ended wish done in
    subst (λ (q : Progress). progress_of wish done done came (Some halt) ≡ stopped q halt) is
    (ap (λ (parts : List Part). record (progress_of wish done done came (Some halt)) { left = parts }) left)

-- all is done where no piece is next
pub shows_done : (wish : Wish) (total done : ℕ) (came bytes : List ℕ) (before : Option Halt) (p : Progress)
    → progress_of wish total done came before ≡ p → before ≡ None
    → first_piece wish.layout wish.volume wish.first total done ≡ None → bytes ≡ came
    → step.End (range.Done bytes) ≡ next_of p
shows_done wish total done came bytes before p is going none same =
    let left : parts_from wish done (total - done) 0 ≡ [] = left_none wish total done none in
    let here : next_of (progress_of wish total done came before) ≡ step.End (range.Done came) =
    ap (λ (h : Option Halt). next_by (option_map (answer_of done) h) (parts_from wish done (total - done) 0) came) going
    ∙ ap (λ (parts : List Part). next_by None parts came) left in
    ap (λ (b : List ℕ). step.End (range.Done b)) same ∙ sym here ∙ ap next_of is

-- the operation on the piece that is next
pub shows_ask : (wish : Wish) (total done : ℕ) (came : List ℕ) (before : Option Halt) (p : Progress) (piece : StripePart)
    → progress_of wish total done came before ≡ p → before ≡ None
    → first_piece wish.layout wish.volume wish.first total done ≡ Some piece → done + (piece.behind + 1) ≤ total
    → step.Ask (ask_of wish.layout.block wish.content done piece) ≡ next_of p
shows_ask wish total done came before p piece is going found within =
    let left = left_first wish total done piece found within in
    let here : next_of (progress_of wish total done came before) ≡ step.Ask (ask_of wish.layout.block wish.content done piece) =
    ap (λ (h : Option Halt). next_by (option_map (answer_of done) h) (parts_from wish done (total - done) 0) came) going
    ∙ ap (λ (parts : List Part). next_by None parts came) left in
    sym here ∙ ap next_of is

-- the operation on the piece that is next, if one is
pub asks_next : (wish : Wish) (total done : ℕ) (came : List ℕ) (before : Option Halt) (p : Progress) (piece : StripePart)
    → progress_of wish total done came before ≡ p → before ≡ None
    → first_piece wish.layout wish.volume wish.first total done ≡ Some piece → done + (piece.behind + 1) ≤ total
    → Some (ask_of wish.layout.block wish.content done piece) ≡ next_ask p
asks_next wish total done came before p piece is going found within =
    ap ask_in (shows_ask wish total done came before p piece is going found within)

-- no operation is next where no piece is
pub asks_none : (wish : Wish) (total done : ℕ) (came : List ℕ) (before : Option Halt) (p : Progress)
    → progress_of wish total done came before ≡ p → before ≡ None
    → first_piece wish.layout wish.volume wish.first total done ≡ None → None ≡ next_ask p
asks_none wish total done came before p is going none = ap ask_in (shows_done wish total done came came before p is going none refl)

-- a range has no halt where the test finds none
pub not_halted : (halt : Option Halt) → is_some halt ≡ false → halt ≡ None
not_halted None is = refl
not_halted (Some halt) is = let never : true ≡ false = is in absurd cc

-- a range that has an operation left has not halted
going : (halt : Option Halt) (total done behind : ℕ) → ForSome halt (λ why. done ≡ total) → done + (behind + 1) ≤ total → halt ≡ None
going None total done behind over within = refl
going (Some why) total done behind over within = let same : done ≡ total = over why refl in absurd (omega arith)

-- the range behind a piece, with these bytes
behind_piece : (wish : Wish) (total done : ℕ) (came : List ℕ) (before : Option Halt) (piece : StripePart) (more : List ℕ)
    → before ≡ None
    → record (progress_of wish total done came before) {
      left = parts_from wish (done + (piece.behind + 1)) (total - (done + (piece.behind + 1))) 0;
      blocks = done + (piece.behind + 1);
      came = more;
    } ≡ progress_of wish total (done + (piece.behind + 1)) more before
behind_piece wish total done came before piece more none =
    ap (λ (h : Option RangeAnswer). record (progress_of wish total (done + (piece.behind + 1)) more before) { halted = h })
    (ap (option_map (answer_of done)) none ∙ sym (ap (option_map (answer_of (done + (piece.behind + 1)))) none))

-- the bytes of a read come behind those before
pub takes_data : (wish : Wish) (total done : ℕ) (came bytes more : List ℕ) (before : Option Halt) (p : Progress) (piece : StripePart)
    (end : Result Answer Refusal) → progress_of wish total done came before ≡ p → ForSome before (λ why. done ≡ total)
    → first_piece wish.layout wish.volume wish.first total done ≡ Some piece → done + (piece.behind + 1) ≤ total
    → end ≡ Ok (answer.Data bytes) → more ≡ came ++ bytes
    → progress_of wish total (done + (piece.behind + 1)) more before ≡ after_end p end
takes_data wish total done came bytes more before p piece end is over found within end_is all =
    let q : Progress = progress_of wish total done came before in
    let left = left_first wish total done piece found within in
    let none = going before total done piece.behind over within in
    let there : after_end q (Ok (answer.Data bytes)) ≡ progress_of wish total (done + (piece.behind + 1)) (came ++ bytes) before =
    ap (λ (parts : List Part). after_by q parts (Ok (answer.Data bytes))) left
    ∙ behind_piece wish total done came before piece (came ++ bytes) none in
    ap (λ (m : List ℕ). progress_of wish total (done + (piece.behind + 1)) m before) all
    ∙ sym there ∙ ap (λ (r : Progress). after_end r (Ok (answer.Data bytes))) is ∙ ap (after_end p) (sym end_is)

-- a write that is done
pub takes_done : (wish : Wish) (total done : ℕ) (came : List ℕ) (before : Option Halt) (p : Progress) (piece : StripePart)
    (end : Result Answer Refusal) → progress_of wish total done came before ≡ p → ForSome before (λ why. done ≡ total)
    → first_piece wish.layout wish.volume wish.first total done ≡ Some piece → done + (piece.behind + 1) ≤ total
    → end ≡ Ok answer.Done
    → progress_of wish total (done + (piece.behind + 1)) came before ≡ after_end p end
takes_done wish total done came before p piece end is over found within end_is =
    let q : Progress = progress_of wish total done came before in
    let left = left_first wish total done piece found within in
    let none = going before total done piece.behind over within in
    let there : after_end q (Ok answer.Done) ≡ progress_of wish total (done + (piece.behind + 1)) came before =
    ap (λ (parts : List Part). after_by q parts (Ok answer.Done)) left
    ∙ behind_piece wish total done came before piece came none in
    sym there ∙ ap (λ (r : Progress). after_end r (Ok answer.Done)) is ∙ ap (after_end p) (sym end_is)

-- no end fits where no piece is next
pub none_fits : (wish : Wish) (total done : ℕ) (came : List ℕ) (before : Option Halt) (p : Progress) (end : Result Answer Refusal)
    → progress_of wish total done came before ≡ p → first_piece wish.layout wish.volume wish.first total done ≡ None → FitsEnd p end → ⊥
none_fits wish total done came before p end is none fits =
    subst (λ (parts : List Part). FitsFirst wish.layout.block parts end) (left_none wish total done none)
    (subst (λ (q : Progress). FitsEnd q end) (sym is) fits)
