-- The happenings that a line says go on, or the line is the first that does not.
use Rattle.std.proofs.Common.{◌≡◌, ℕ, suc, ◌+◌, ◌<◌, ◌≤◌, Bool, true, false, List, ◌∷◌, length, get_or, take, drop, take_all, Option, Some, None, sym, ap, ◌∙◌, subst, arith}
use Rattle.std.proofs.lemmas.List.{at_drop_more, at_drop_all}
use Rattle.fab_base.specs.Layouts.{Layout, Group, group_of}
use Rattle.reg_model.specs.Marks.{Life, life_of, stripe_marks}
use Rattle.reg_model.specs.Registers.{zero_registers}
use Rattle.transcript.specs.declared.claims.ParsedMark.{ParsedMark}
use Rattle.transcript.specs.declared.claims.StripeLine.{StripeLine}
use Rattle.transcript.specs.Marks.{marks_of}
use Rattle.audit.specs.declared.reviews.Review.{Review}
use Rattle.audit.specs.Checks.{MarksHold}
use Rattle.audit.specs.Operations.{Shows}
use Rattle.audit.specs.Walks.{LifeFits, life_among, walk_from, WalksAlong}
use Rattle.audit.specs.Lasts.{past_behind, last_at}
use Rattle.audit.specs.Reviews.{Reviews}
use Rattle.audit.specs.Sweeps.{happened_along, lives_at, GoesIn, LineGoes, AnswersLine, LinesGo, StopsAt}
use Rattle.audit.proofs.StripeLives.{lives_are}
use Rattle.audit.proofs.Fitting.{life_fits}
use Rattle.audit.proofs.Marking.{walked_marks}

-- what is kept of all marks
pub record Kept (layout : Layout) (claims : List ParsedMark) (review : Review) : Type 0 where
  pub hold : MarksHold layout (marks_of claims)
  pub shows : Shows claims (marks_of claims) (length claims) review.operations
  pub lasts_are : (g s : ℕ) → past_behind 0 (stripe_marks g s (marks_of claims)) ≡ last_at review.lasts g s

pub kept : (layout : Layout) (claims : List ParsedMark) (review : Review) → Reviews layout claims review → Kept layout claims review
kept layout claims review reviews =
    let all : take (length claims) claims ≡ claims = take_all (length claims) claims (omega arith) in
    record {
      hold = subst (λ (l : List ParsedMark). MarksHold layout (marks_of l)) all reviews.hold;
      shows = subst (λ (l : List ParsedMark). Shows claims (marks_of l) (length claims) review.operations) all reviews.shows;
      lasts_are = λ g s. subst (λ (l : List ParsedMark). past_behind 0 (stripe_marks g s (marks_of l)) ≡ last_at review.lasts g s) all (reviews.lasts_are g s);
    }

-- the lives that are looked at are those of the stripe's marks
pub lives_here : (layout : Layout) (claims : List ParsedMark) (review : Review) (g s n : ℕ) → Kept layout claims review
    → lives_at claims review g s n ≡ life_of (stripe_marks g s (marks_of claims)) n
lives_here layout claims review g s n k =
    subst (λ (p : ℕ). life_among claims review.operations p g s n ≡ life_of (stripe_marks g s (marks_of claims)) n) (k.lasts_are g s)
    (lives_are layout claims (marks_of claims) (length claims) review.operations g s k.hold k.shows n)

-- what the operations of a line's stripe ask fits it
pub line_fits : (layout : Layout) (claims : List ParsedMark) (review : Review) (g s : ℕ) (group : Group) (m block past : ℕ) → Reviews layout claims review
    → group_of layout g ≡ Some group → m ≡ group.m → block ≡ layout.block → past ≡ last_at review.lasts g s
    → (n : ℕ) → LifeFits m block (life_among claims review.operations past g s n)
line_fits layout claims review g s group m block past reviews is same_m same_block same_past n =
    let k = kept layout claims review reviews in
    subst (λ (x : ℕ). LifeFits x block (life_among claims review.operations past g s n)) (sym same_m)
    (subst (λ (x : ℕ). LifeFits group.m x (life_among claims review.operations past g s n)) (sym same_block)
    (subst (λ (x : ℕ). LifeFits group.m layout.block (life_among claims review.operations x g s n)) (sym same_past)
    (subst (λ (l : Option Life). LifeFits group.m layout.block l) (sym (lives_here layout claims review g s n k))
    (life_fits layout (marks_of claims) g s group k.hold is n))))

-- a walk's answer is the line's
answer_by : (layout : Layout) (claims : List ParsedMark) (review : Review) (line : StripeLine) (old new : List Bool) (group : Group) (r : Bool)
    → group_of layout line.group ≡ Some group → line.stripe < group.stripes
    → WalksAlong layout.block (lives_at claims review line.group line.stripe) (walk_from old (zero_registers group.m layout.block)) line.happenings new r
    → AnswersLine layout claims review old new line r
answer_by layout claims review line old new group true is lt walks = (
  subst (λ (o : Option Group). GoesIn o layout.block (lives_at claims review line.group line.stripe) old line.stripe line.happenings) (sym is)
      (lt, walks.0),
  sym walks.1 ∙ walked_marks layout.block (lives_at claims review line.group line.stripe) (walk_from old (zero_registers group.m layout.block)) line.happenings,
)
answer_by layout claims review line old new group false is lt walks = λ goes.
    walks (subst (λ (o : Option Group). GoesIn o layout.block (lives_at claims review line.group line.stripe) old line.stripe line.happenings) is goes).1

pub line_answers : (layout : Layout) (claims : List ParsedMark) (review : Review) (line : StripeLine) (old new : List Bool) (group : Group) (m block past : ℕ)
    (registers : List ℕ) (r : Bool) → group_of layout line.group ≡ Some group → line.stripe < group.stripes → m ≡ group.m → block ≡ layout.block
    → past ≡ last_at review.lasts line.group line.stripe → registers ≡ zero_registers m block
    → WalksAlong block (life_among claims review.operations past line.group line.stripe) (walk_from old registers) line.happenings new r
    → AnswersLine layout claims review old new line r
line_answers layout claims review line old new group m block past registers r is lt same_m same_block same_past zeros walks =
    let lives : ℕ → ℕ → Option Life = λ p n. life_among claims review.operations p line.group line.stripe n in
    let one = subst (λ (x : List ℕ). WalksAlong block (lives past) (walk_from old x) line.happenings new r) zeros walks in
    let two = subst (λ (x : ℕ). WalksAlong block (lives past) (walk_from old (zero_registers x block)) line.happenings new r) same_m one in
    let three = subst (λ (x : ℕ). WalksAlong x (lives past) (walk_from old (zero_registers group.m x)) line.happenings new r) same_block two in
    let four = subst (λ (x : ℕ). WalksAlong layout.block (lives x) (walk_from old (zero_registers group.m layout.block)) line.happenings new r) same_past three in
    answer_by layout claims review line old new group r is lt four

-- a line of a group that there is not, or of a stripe that its group has not
pub no_group : (layout : Layout) (claims : List ParsedMark) (review : Review) (line : StripeLine) (old : List Bool) → group_of layout line.group ≡ None
    → LineGoes layout claims review old line → ⊥
no_group layout claims review line old is goes =
    subst (λ (o : Option Group). GoesIn o layout.block (lives_at claims review line.group line.stripe) old line.stripe line.happenings) is goes

pub no_stripe : (layout : Layout) (claims : List ParsedMark) (review : Review) (line : StripeLine) (old : List Bool) (group : Group)
    → group_of layout line.group ≡ Some group → group.stripes ≤ line.stripe → LineGoes layout claims review old line → ⊥
no_stripe layout claims review line old group is le goes =
    let parts = subst (λ (o : Option Group). GoesIn o layout.block (lives_at claims review line.group line.stripe) old line.stripe line.happenings) is goes in
    let lt : line.stripe < group.stripes = parts.0 in omega arith

-- what was answered of a line
pub answered_as : (layout : Layout) (claims : List ParsedMark) (review : Review) (old new : List Bool) (line : StripeLine) (b t : Bool) → b ≡ t
    → AnswersLine layout claims review old new line b → AnswersLine layout claims review old new line t
answered_as layout claims review old new line b t is given = subst (λ (x : Bool). AnswersLine layout claims review old new line x) is given

-- the line at a place, and those behind it
rest_is : (lines : List StripeLine) (i : ℕ) (line : StripeLine) → i < length lines → line ≡ get_or lines i line → drop i lines ≡ line ∷ drop (i + 1) lines
rest_is lines i line lt is = at_drop_more (λ (l : List StripeLine). l) lines i line lt ∙ ap (λ (x : StripeLine). x ∷ drop (i + 1) lines) (sym is)

pub stop_here : (layout : Layout) (claims : List ParsedMark) (review : Review) (start now : List Bool) (lines : List StripeLine) (i : ℕ) (line : StripeLine)
    → i < length lines → line ≡ get_or lines i line
    → ((k : ℕ) → StopsAt layout claims review now (drop i lines) k → StopsAt layout claims review start lines (i + k))
    → (LineGoes layout claims review now line → ⊥) → StopsAt layout claims review start lines i
stop_here layout claims review start now lines i line lt is stops not_go =
    subst (λ (k : ℕ). StopsAt layout claims review start lines k) (omega arith)
    (stops 0 (subst (λ (l : List StripeLine). StopsAt layout claims review now l 0) (sym (rest_is lines i line lt is)) not_go))

pub stop_more : (layout : Layout) (claims : List ParsedMark) (review : Review) (start now later : List Bool) (lines : List StripeLine) (i : ℕ) (line : StripeLine)
    → i < length lines → line ≡ get_or lines i line
    → ((k : ℕ) → StopsAt layout claims review now (drop i lines) k → StopsAt layout claims review start lines (i + k))
    → LineGoes layout claims review now line × (later ≡ happened_along now line.happenings)
    → (k : ℕ) → StopsAt layout claims review later (drop (i + 1) lines) k → StopsAt layout claims review start lines (i + 1 + k)
stop_more layout claims review start now later lines i line lt is stops goes k at =
    subst (λ (j : ℕ). StopsAt layout claims review start lines j) (let same : i + suc k ≡ i + 1 + k = omega arith in same)
    (stops (suc k) (subst (λ (l : List StripeLine). StopsAt layout claims review now l (suc k)) (sym (rest_is lines i line lt is))
    (goes.0, subst (λ (f : List Bool). StopsAt layout claims review f (drop (i + 1) lines) k) goes.1 at)))

pub go_more : (layout : Layout) (claims : List ParsedMark) (review : Review) (start now later : List Bool) (lines : List StripeLine) (i : ℕ) (line : StripeLine)
    → i < length lines → line ≡ get_or lines i line → (LinesGo layout claims review now (drop i lines) → LinesGo layout claims review start lines)
    → LineGoes layout claims review now line × (later ≡ happened_along now line.happenings)
    → LinesGo layout claims review later (drop (i + 1) lines) → LinesGo layout claims review start lines
go_more layout claims review start now later lines i line lt is go goes rest =
    go (subst (λ (l : List StripeLine). LinesGo layout claims review now l) (sym (rest_is lines i line lt is))
    (goes.0, subst (λ (f : List Bool). LinesGo layout claims review f (drop (i + 1) lines)) goes.1 rest))

pub go_all : (layout : Layout) (claims : List ParsedMark) (review : Review) (start now : List Bool) (lines : List StripeLine) (i : ℕ) → length lines ≤ i
    → (LinesGo layout claims review now (drop i lines) → LinesGo layout claims review start lines) → LinesGo layout claims review start lines
go_all layout claims review start now lines i past go =
    go (subst (λ (l : List StripeLine). LinesGo layout claims review now l) (sym (at_drop_all (λ (l : List StripeLine). l) lines i past)) tt)
