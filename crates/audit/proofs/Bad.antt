-- What is found of the stripes of a text.
use Rattle.std.proofs.Common.{◌≡◌, ◌≢◌, ℕ, ◌<◌, ◌≤◌, Bool, true, false, List, length, get_or, take, take_all, ◌⊎◌, inl, inr, ⊎_elim, Option, Some, None, refl, sym, ap, ◌∙◌, subst, arith}
use Rattle.std.specs.Prelude.{slice_get}
use Rattle.std.specs.Option.{option_map}
use Rattle.std.proofs.lemmas.Bool.{cases_eq, cases_lt}
use Rattle.std.proofs.lemmas.Bool.Decides.{nat_tests}
use Rattle.fab_base.specs.Layouts.{Layout}
use Rattle.transcript.specs.declared.claims.ParsedMark.{ParsedMark}
use Rattle.transcript.specs.declared.claims.StripeLine.{StripeLine}
use Rattle.transcript.specs.Marks.{marks_of}
use Rattle.transcript.specs.Transcripts.{StripesRise}
use Rattle.audit.specs.declared.operations.Operation.{Operation}
use Rattle.audit.specs.declared.reviews.Review.{Review}
use Rattle.audit.specs.declared.sweeps.StripeName.{StripeName}
use Rattle.audit.specs.Checks.{StripeHolds, IsBefore}
use Rattle.audit.specs.Judging.{FindsBad}
use Rattle.audit.specs.Reviews.{Reviews}
use Rattle.audit.specs.Sweeps.{LineGoes, LinesGo, LinesStop, StopsAt, first_missing, happened_in, none_happened, was_answered, is_missing, name_before, name_of}
use Rattle.audit.proofs.Lists.{same_some, get_within}
use Rattle.audit.proofs.LineGoing.{kept}
use Rattle.audit.proofs.Marking.{stops_parts, length_none}
use Rattle.audit.proofs.Missing.{Missing, FirstMeans, first_means}
use Rattle.audit.proofs.Verdicts.{known, own_stripe, length_in, holds, misses, stopped}

-- the order of stripes, in its two forms
before_test : (g s h t : ℕ) → IsBefore g s h t → name_before (record { group = g; stripe = s }) (record { group = h; stripe = t }) ≡ true
before_test g s h t (inl lt) = grind (arith, nat_tests)
before_test g s h t (inr same) = grind (arith, nat_tests)

trans_before : (a b c : StripeName) → name_before a b ≡ true → name_before b c ≡ true → name_before a c ≡ true
trans_before a b c one two = grind (arith, nat_tests)

missing_test : (claims : List ParsedMark) (o : Operation) (b : Bool) → b ≡ false → was_answered claims o.end ≡ true → is_missing claims o b ≡ true
missing_test claims o false is was = was
missing_test claims o true is was = absurd (let never : true ≡ false = is in cc)

missing_parts : (claims : List ParsedMark) (o : Operation) (b : Bool) → is_missing claims o b ≡ true → (b ≡ false) × (was_answered claims o.end ≡ true)
missing_parts claims o false is = (refl, is)
missing_parts claims o true is = absurd (let never : false ≡ true = is in cc)

-- an answered operation has happened where none of its stripe is missing
flagged : (claims : List ParsedMark) (operations : List Operation) (happened : List Bool) (g s : ℕ) → (Missing claims operations happened g s → ⊥)
    → (j : ℕ) (o : Operation) → slice_get operations j ≡ Some o → o.group ≡ g → o.stripe ≡ s → was_answered claims o.end ≡ true
    → get_or happened j false ≡ true
flagged claims operations happened g s none j o at group stripe was = by_test (get_or happened j false) refl
  where
    by_test : (t : Bool) → get_or happened j false ≡ t → get_or happened j false ≡ true
    by_test true e = e
    by_test false e = absurd (none (record {
      place = j;
      operation = o;
      at = at;
      group = group;
      stripe = stripe;
      is = missing_test claims o (get_or happened j false) e was;
    }))

module _ (layout : Layout) (claims : List ParsedMark) (review : Review) (reviews : Reviews layout claims review) (lines : List StripeLine) (rise : StripesRise lines) where
  -- all lines go on
  went_all : LinesGo layout claims review (none_happened (length review.operations.found)) lines
      → LinesGo layout claims review (none_happened (length review.operations.found)) (take (length lines) lines)
  went_all go = subst (λ (l : List StripeLine). LinesGo layout claims review (none_happened (length review.operations.found)) l)
      (sym (take_all (length lines) lines (omega arith))) go

  pub all_went : (result : Option StripeName) → LinesGo layout claims review (none_happened (length review.operations.found)) lines
      → FirstMeans claims review.operations.found (happened_in (none_happened (length review.operations.found)) lines) None result
      → FindsBad layout (marks_of claims) lines result
  all_went None go means = λ g s named.
      holds layout claims review reviews lines rise (length lines) (went_all go) g s named (λ i line at group stripe. get_within lines i line at)
      (flagged claims review.operations.found (happened_in (none_happened (length review.operations.found)) (take (length lines) lines)) g s
      (subst (λ (l : List StripeLine). Missing claims review.operations.found (happened_in (none_happened (length review.operations.found)) l) g s → ⊥)
      (sym (take_all (length lines) lines (omega arith))) (means.1 g s)))
  all_went (Some name) go means =
      let all : take (length lines) lines ≡ lines = take_all (length lines) lines (omega arith) in
      ⊎_elim (λ (never : None ≡ Some name). absurd (let no_such : None ≡ Some name = never in cc))
      (λ (m : Missing claims review.operations.found (happened_in (none_happened (length review.operations.found)) lines) name.group name.stripe).
      let parts = missing_parts claims m.operation (get_or (happened_in (none_happened (length review.operations.found)) lines) m.place false) m.is in
      record {
        named = inl (own_stripe layout claims review (kept layout claims review reviews) name.group name.stripe m.place m.operation m.at m.group m.stripe);
        fails = misses layout claims review reviews lines rise (length lines) (went_all go) name.group name.stripe
            (λ i line at group stripe. get_within lines i line at) m.place m.operation m.at m.group m.stripe parts.1
            (ap (λ (l : List StripeLine). get_or (happened_in (none_happened (length review.operations.found)) l) m.place false) all ∙ parts.0);
        before = λ h t bef named.
            holds layout claims review reviews lines rise (length lines) (went_all go) h t named (λ i line at group stripe. get_within lines i line at)
            (flagged claims review.operations.found (happened_in (none_happened (length review.operations.found)) (take (length lines) lines)) h t
            (subst (λ (l : List StripeLine). Missing claims review.operations.found (happened_in (none_happened (length review.operations.found)) l) h t → ⊥)
            (sym all)
            (λ other. let never : true ≡ false = sym (before_test h t name.group name.stripe bef) ∙ means.none_before h t other in cc)));
      })
      means.among

  -- a line stops
  module _ (k : ℕ) (stops : StopsAt layout claims review (none_happened (length review.operations.found)) lines k) where
    pub one_stopped : (result : Option StripeName)
        → FirstMeans claims review.operations.found (happened_in (none_happened (length review.operations.found)) (take k lines))
        (option_map name_of (slice_get lines k)) result
        → FindsBad layout (marks_of claims) lines result
    one_stopped None means =
        let parts = stops_parts layout claims review (length review.operations.found) (known claims review) (none_happened (length review.operations.found)) lines k stops in
        absurd (let never : Some (name_of parts.1.0) ≡ None = ap (option_map name_of) (sym parts.1.1) ∙ means.0 in cc)
    one_stopped (Some name) means =
        let parts = stops_parts layout claims review (length review.operations.found) (known claims review) (none_happened (length review.operations.found)) lines k stops in
        let line : StripeLine = parts.1.0 in
        let stop : option_map name_of (slice_get lines k) ≡ Some (name_of line) = ap (option_map name_of) parts.1.1 in
        let not_before : name_before (name_of line) name ≡ false = means.stop_not_before (name_of line) stop in
        record {
          named = ⊎_elim
              (λ (e : option_map name_of (slice_get lines k) ≡ Some name).
              let same : name_of line ≡ name = same_some (name_of line) name (sym stop ∙ e) in
              inr (k, line, parts.1.1, ap (λ (n : StripeName). n.group) same, ap (λ (n : StripeName). n.stripe) same))
              (λ (m : Missing claims review.operations.found (happened_in (none_happened (length review.operations.found)) (take k lines)) name.group name.stripe).
              inl (own_stripe layout claims review (kept layout claims review reviews) name.group name.stripe m.place m.operation m.at m.group m.stripe))
              means.among;
          fails = ⊎_elim
              (λ (e : option_map name_of (slice_get lines k) ≡ Some name).
              let same : name_of line ≡ name = same_some (name_of line) name (sym stop ∙ e) in
              subst (λ (n : StripeName). StripeHolds layout (marks_of claims) lines n.group n.stripe → ⊥) same
              (stopped layout claims review reviews lines rise k parts.0 line parts.1.1 parts.1.2))
              (λ (m : Missing claims review.operations.found (happened_in (none_happened (length review.operations.found)) (take k lines)) name.group name.stripe).
              fails_by line name parts.0 parts.1.1 parts.1.2 not_before m (cases_eq line.group name.group) (cases_eq line.stripe name.stripe))
              means.among;
          before = λ h t bef named.
              holds layout claims review reviews lines rise k parts.0 h t named
              (λ i l at group stripe. passed_before line name parts.1.1 not_before h t bef i l at group stripe)
              (flagged claims review.operations.found (happened_in (none_happened (length review.operations.found)) (take k lines)) h t
              (λ other. let never : true ≡ false = sym (before_test h t name.group name.stripe bef) ∙ means.none_before h t other in cc));
        }
      where
        -- a line of a stripe before the one that is found stands before the one that stops
        passed_before : (line : StripeLine) (name : StripeName) → slice_get lines k ≡ Some line → name_before (name_of line) name ≡ false → (h t : ℕ)
            → IsBefore h t name.group name.stripe → (i : ℕ) (l : StripeLine) → slice_get lines i ≡ Some l → l.group ≡ h → l.stripe ≡ t → i < k
        passed_before line name at not_before h t bef i l there group stripe =
            let mine : StripeName = record { group = h; stripe = t } in
            let first : name_before mine name ≡ true = before_test h t name.group name.stripe bef in
            let is_mine : name_of l ≡ mine = ap (λ (g : ℕ). record { group = g; stripe = l.stripe }) group ∙ ap (λ (s : ℕ). record { group = h; stripe = s }) stripe in
            ⊎_elim (λ (lt : i < k). lt)
            (λ (le : k ≤ i). ⊎_elim
            (λ (lt : k < i). absurd (let never : true ≡ false =
            sym (trans_before (name_of line) mine name (ap (λ (n : StripeName). name_before (name_of line) n) (sym is_mine) ∙ rise k i line l lt at there) first)
            ∙ not_before in cc))
            (λ (le' : i ≤ k).
            let place : i ≡ k = omega arith in
            let same : l ≡ line = same_some l line (sym there ∙ ap (slice_get lines) place ∙ at) in
            absurd (let never : true ≡ false = sym (ap (λ (n : StripeName). name_before n name) (ap name_of (sym same) ∙ is_mine) ∙ first) ∙ not_before in cc))
            (cases_lt k i))
            (cases_lt i k)

        -- a line of the stripe that is found stands before the one that stops, where that is of another stripe
        passed_same : (line : StripeLine) (name : StripeName) → slice_get lines k ≡ Some line → name_before (name_of line) name ≡ false
            → ((line.group ≡ name.group) → (line.stripe ≡ name.stripe) → ⊥) → (i : ℕ) (l : StripeLine) → slice_get lines i ≡ Some l
            → l.group ≡ name.group → l.stripe ≡ name.stripe → i < k
        passed_same line name at not_before other i l there group stripe =
            let is_name : name_of l ≡ name = ap (λ (g : ℕ). record { group = g; stripe = l.stripe }) group
            ∙ ap (λ (s : ℕ). record { group = name.group; stripe = s }) stripe in
            ⊎_elim (λ (lt : i < k). lt)
            (λ (le : k ≤ i). ⊎_elim
            (λ (lt : k < i). absurd (let never : true ≡ false =
            sym (ap (λ (n : StripeName). name_before (name_of line) n) (sym is_name) ∙ rise k i line l lt at there) ∙ not_before in cc))
            (λ (le' : i ≤ k).
            let place : i ≡ k = omega arith in
            let same : l ≡ line = same_some l line (sym there ∙ ap (slice_get lines) place ∙ at) in
            absurd (other (sym (ap (λ (x : StripeLine). x.group) same) ∙ group) (sym (ap (λ (x : StripeLine). x.stripe) same) ∙ stripe)))
            (cases_lt k i))
            (cases_lt i k)

        missed : (line : StripeLine) (name : StripeName) → LinesGo layout claims review (none_happened (length review.operations.found)) (take k lines)
            → slice_get lines k ≡ Some line → name_before (name_of line) name ≡ false
            → Missing claims review.operations.found (happened_in (none_happened (length review.operations.found)) (take k lines)) name.group name.stripe
            → ((line.group ≡ name.group) → (line.stripe ≡ name.stripe) → ⊥) → StripeHolds layout (marks_of claims) lines name.group name.stripe → ⊥
        missed line name went at not_before m other =
            let parts = missing_parts claims m.operation (get_or (happened_in (none_happened (length review.operations.found)) (take k lines)) m.place false) m.is in
            misses layout claims review reviews lines rise k went name.group name.stripe (passed_same line name at not_before other) m.place m.operation m.at
            m.group m.stripe parts.1 parts.0

        fails_by : (line : StripeLine) (name : StripeName) → LinesGo layout claims review (none_happened (length review.operations.found)) (take k lines)
            → slice_get lines k ≡ Some line
            → (LineGoes layout claims review (happened_in (none_happened (length review.operations.found)) (take k lines)) line → ⊥)
            → name_before (name_of line) name ≡ false
            → Missing claims review.operations.found (happened_in (none_happened (length review.operations.found)) (take k lines)) name.group name.stripe
            → (line.group ≡ name.group) ⊎ (line.group ≢ name.group) → (line.stripe ≡ name.stripe) ⊎ (line.stripe ≢ name.stripe)
            → StripeHolds layout (marks_of claims) lines name.group name.stripe → ⊥
        fails_by line name went at not_go not_before m (inl group) (inl stripe) =
            subst (λ (g : ℕ). StripeHolds layout (marks_of claims) lines g name.stripe → ⊥) group
            (subst (λ (s : ℕ). StripeHolds layout (marks_of claims) lines line.group s → ⊥) stripe
            (stopped layout claims review reviews lines rise k went line at not_go))
        fails_by line name went at not_go not_before m (inl group) (inr stripe) = missed line name went at not_before m (λ g s. stripe s)
        fails_by line name went at not_go not_before m (inr group) stripe = missed line name went at not_before m (λ g s. group g)

-- as many operations are told of as there are
pub room : (happened : List Bool) (count : ℕ) (lines : List StripeLine) → happened ≡ happened_in (none_happened count) lines → length happened ≡ count
room happened count lines is = ap length is ∙ length_in (none_happened count) lines ∙ length_none count

-- what is found where all lines go on, and where one stops
pub none_bad : (layout : Layout) (claims : List ParsedMark) (review : Review) (lines : List StripeLine) (operations : List Operation) (happened : List Bool)
    (result : Option StripeName) → Reviews layout claims review → StripesRise lines → operations ≡ review.operations.found
    → happened ≡ happened_in (none_happened (length operations)) lines
    → LinesStop layout claims review (none_happened (length review.operations.found)) lines None
    → result ≡ first_missing claims operations happened None → FindsBad layout (marks_of claims) lines result
none_bad layout claims review lines operations happened result reviews rise same flags go is =
    let means = first_means claims operations happened None (room happened (length operations) lines flags) in
    let found : FirstMeans claims operations (happened_in (none_happened (length operations)) lines) None result =
    subst (λ (r : Option StripeName). FirstMeans claims operations (happened_in (none_happened (length operations)) lines) None r) (sym is)
    (subst (λ (f : List Bool). FirstMeans claims operations f None (first_missing claims operations happened None)) flags means) in
    all_went layout claims review reviews lines rise result go
    (subst (λ (o : List Operation). FirstMeans claims o (happened_in (none_happened (length o)) lines) None result) same found)

pub some_bad : (layout : Layout) (claims : List ParsedMark) (review : Review) (lines front : List StripeLine) (operations : List Operation) (happened : List Bool)
    (place : ℕ) (stop result : Option StripeName) → Reviews layout claims review → StripesRise lines → operations ≡ review.operations.found
    → front ≡ take place lines → happened ≡ happened_in (none_happened (length operations)) front → stop ≡ option_map name_of (slice_get lines place)
    → LinesStop layout claims review (none_happened (length review.operations.found)) lines (Some place)
    → result ≡ first_missing claims operations happened stop → FindsBad layout (marks_of claims) lines result
some_bad layout claims review lines front operations happened place stop result reviews rise same before flags stops_is stops is =
    let flags_here : happened ≡ happened_in (none_happened (length operations)) (take place lines) =
    flags ∙ ap (happened_in (none_happened (length operations))) before in
    let means = first_means claims operations happened stop (room happened (length operations) front flags) in
    let one = subst (λ (r : Option StripeName). FirstMeans claims operations happened stop r) (sym is) means in
    let two = subst (λ (f : List Bool). FirstMeans claims operations f stop result) flags_here one in
    let three = subst (λ (s : Option StripeName). FirstMeans claims operations (happened_in (none_happened (length operations)) (take place lines)) s result)
    stops_is two in
    one_stopped layout claims review reviews lines rise place stops result
    (subst (λ (o : List Operation). FirstMeans claims o (happened_in (none_happened (length o)) (take place lines)) (option_map name_of (slice_get lines place)) result)
    same three)
