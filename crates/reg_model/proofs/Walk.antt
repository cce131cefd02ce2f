-- The happenings of a walk along a stripe's versions are strict.
use Rattle.std.proofs.Common.{◌≡◌, ℕ, ◌<◌, ◌≤◌, ◌+◌, ◌-◌, max, Bool, true, false, eqb, inl, inr, ⊎_elim, List, [], ◌∷◌, length, map, get_or, Option, Some, None, refl, sym, ◌∙◌, ap, subst, arith, zero, suc}
use Rattle.std.specs.List.{All, Contains, IsDistinct, AllPairs}
use Rattle.std.specs.List.Sorted.{IsNonDecreasing}
use Rattle.std.proofs.lemmas.List.Sorted.{sorted_far}
use Rattle.std.proofs.lemmas.Bool.{cases_Bool, cases_lt, both_ways, eqb-false}
use Rattle.std.proofs.lemmas.List.{length-map, get_or-map, get_or_default}
use Rattle.std.proofs.lemmas.List.Elements.{All-cons, All-nil, All-map, Contains-get_or}
use Rattle.std.proofs.lemmas.Map.Keys.{apart_from_distinct}
use Rattle.fab_base.specs.declared.asks.Op.{Op}
use Rattle.fab_base.specs.declared.asks.Op.TheVariants.{ReadBlock, WriteBlock, ReadStripe, WriteStripe}
use Rattle.fab_base.specs.declared.stamps.Stamp.{Stamp}
use Rattle.fab_base.specs.Stamps.{stamp_below, first_stamp}
use Rattle.reg_model.specs.declared.marks.Mark.{Mark}
use Rattle.reg_model.specs.declared.marks.Happening.{Happening}
use Rattle.reg_model.specs.declared.entries.Entry.{Entry}
use Rattle.reg_model.specs.Marks.{Life, life_of}
use Rattle.reg_model.specs.Registers.{zero_registers, after_op, read_of}
use Rattle.reg_model.specs.Strict.{IsStrict, IsInTime, IsRead, data_of, ReadsRight, ReadsRightAlong, after_life}
use Rattle.reg_model.proofs.Bases.{Ascends}
use Rattle.reg_model.specs.Walk.{entry_below, begin_of, last_of, positioned}
use Rattle.reg_model.proofs.WalkFacts.{OnlyReads, HasTurn, IsMaker, IsMade, IsMadeFrom, IsWrittenBack, Follows, IsOfVersion, WalkFacts}
use Rattle.reg_model.proofs.Chains.{version_at, rises_far, place_after, places_differ}
use Rattle.reg_model.proofs.EntryOrder.{entry_order, after_entry}

-- the operations of the happenings are those of the entries
map-positioned : (marks : List Mark) (p : ℕ) (entries : List Entry)
    → map (λ h. h.operation) (positioned marks p entries) ≡ map (λ e. e.operation) entries
map-positioned marks p [] = refl
map-positioned marks p (e ∷ entries) =
    ap (λ (numbers : List ℕ). e.operation ∷ numbers) (map-positioned marks (max p (begin_of (life_of marks e.operation))) entries)

-- no happening is before where the walk stands
positioned-from : (marks : List Mark) (p : ℕ) (entries : List Entry) → All (λ (h : Happening). p ≤ h.position) (positioned marks p entries)
positioned-from marks p [] = All-nil (λ (h : Happening). p ≤ h.position)
positioned-from marks p (e ∷ entries) =
    let q = max p (begin_of (life_of marks e.operation)) in
    let least : p ≤ q = omega arith in
    All-cons (λ (h : Happening). p ≤ h.position) _ (positioned marks q entries) least
    (λ k d h. let later : q ≤ (get_or (positioned marks q entries) k d).position = positioned-from marks q entries k d h in omega arith)

-- at a later step along a list
rises_cons : (x : ℕ) (xs : List ℕ) → All (λ y. x ≤ y) xs → IsNonDecreasing xs → IsNonDecreasing (x ∷ xs)
rises_cons x xs low up zero zero d le lt = omega arith
rises_cons x xs low up zero (suc j) d le lt = low j d (omega arith)
rises_cons x xs low up (suc i) zero d le lt = absurd (omega arith)
rises_cons x xs low up (suc i) (suc j) d le lt = up i j d (omega arith) (omega arith)

-- positions never fall
positioned-rise : (marks : List Mark) (p : ℕ) (entries : List Entry) → IsNonDecreasing (map (λ h. h.position) (positioned marks p entries))
positioned-rise marks p [] = λ i j d le lt. absurd (omega arith)
positioned-rise marks p (e ∷ entries) =
    let q = max p (begin_of (life_of marks e.operation)) in
    rises_cons q (map (λ h. h.position) (positioned marks q entries))
    (All-map (λ y. q ≤ y) (λ (h : Happening). h.position) (positioned marks q entries) (positioned-from marks q entries))
    (positioned-rise marks q entries)

-- an operation that has its turn has begun: it happens at a position that is neither before its begin nor after its end
turn_in_time : (block : ℕ) (content : List ℕ) (reader : Bool) (life : Option Life) (p : ℕ)
    → HasTurn block content reader life → begin_of life ≤ p → p ≤ last_of life → IsInTime life p
turn_in_time block content false None p turn begins lasts = turn
turn_in_time block content true None p turn begins lasts = turn
turn_in_time block content reader (Some life) p turn begins lasts = (begins, lasts)

-- the entries' operations have their turns
HaveTurns : ℕ → List Mark → (Stamp → List ℕ) → List Entry → Type 0
HaveTurns block marks content entries = All (λ (e : Entry). HasTurn block (content e.stamp) e.reader (life_of marks e.operation)) entries

-- no operation that began after the end of another stands before it
IsRealTime : List Mark → List Entry → Type 0
IsRealTime marks entries =
    (i j : ℕ) (d : Entry) → i ≤ j → j < length entries
    → begin_of (life_of marks (get_or entries i d).operation) ≤ last_of (life_of marks (get_or entries j d).operation)

-- happenings at the greatest begin so far are in time
positioned-in_time : (block : ℕ) (marks : List Mark) (content : Stamp → List ℕ) (p : ℕ) (entries : List Entry) → HaveTurns block marks content entries
    → IsRealTime marks entries → All (λ (e : Entry). p ≤ last_of (life_of marks e.operation)) entries
    → All (λ (h : Happening). IsInTime (life_of marks h.operation) h.position) (positioned marks p entries)
unfolding HaveTurns IsRealTime
positioned-in_time block marks content p [] turns real later = All-nil (λ (h : Happening). IsInTime (life_of marks h.operation) h.position)
positioned-in_time block marks content p (e ∷ entries) turns real later =
    let begin = begin_of (life_of marks e.operation) in
    let q = max p begin in
    let from : begin ≤ q = omega arith in
    let before : p ≤ last_of (life_of marks e.operation) = later 0 e (omega arith) in
    let own : begin ≤ last_of (life_of marks e.operation) = real 0 0 e (omega arith) (omega arith) in
    let until : q ≤ last_of (life_of marks e.operation) = omega arith in
    All-cons (λ (h : Happening). IsInTime (life_of marks h.operation) h.position) _ (positioned marks q entries)
    (turn_in_time block (content e.stamp) e.reader (life_of marks e.operation) q (turns 0 e (omega arith)) from until)
    (positioned-in_time block marks content q entries (λ k d h. turns (suc k) d (omega arith))
    (λ i j d le lt. real (suc i) (suc j) d (omega arith) (omega arith))
    (λ k d h.
    let rest : p ≤ last_of (life_of marks (get_or entries k d).operation) = later (suc k) d (omega arith) in
    let begun : begin ≤ last_of (life_of marks (get_or entries k d).operation) = real 0 (suc k) d (omega arith) (omega arith) in
    omega arith))

-- an answer that is right after an operation is right before it: a read changes nothing, and a write reads nothing
right_before : (block : ℕ) (registers : List ℕ) (op : Op) (answered : Option (List ℕ))
    → IsRead (read_of block op (after_op block op registers)) answered → IsRead (read_of block op registers) answered
right_before block registers (ReadBlock j) answered right = right
right_before block registers (WriteBlock j bytes) answered right = tt
right_before block registers ReadStripe answered right = right
right_before block registers (WriteStripe bytes) answered right = tt

-- what only reads changes nothing
reader_leaves : (block : ℕ) (registers : List ℕ) (op : Op) → OnlyReads op → after_op block op registers ≡ registers
reader_leaves block registers (ReadBlock j) reads = refl
reader_leaves block registers (WriteBlock j bytes) reads = absurd reads
reader_leaves block registers ReadStripe reads = refl
reader_leaves block registers (WriteStripe bytes) reads = absurd reads

-- a turn at a version of this content, at these registers: what was answered is right, and the content is there afterwards
TurnLeaves : ℕ → List ℕ → List ℕ → Option Life → Type 0
TurnLeaves block content registers life = ReadsRight block registers life × (after_life block registers life ≡ content)

-- a reader that finds its version's content leaves it
reader_turn : (block : ℕ) (content registers : List ℕ) (life : Option Life) → HasTurn block content true life → registers ≡ content
    → TurnLeaves block content registers life
unfolding TurnLeaves
reader_turn block content registers None turn finds = absurd turn
reader_turn block content registers (Some life) turn finds =
    (subst (λ (r : List ℕ). ReadsRight block r (Some life)) (sym finds) turn.1, reader_leaves block registers life.ask.op turn.0 ∙ finds)

-- a maker that turns these registers into its version's content leaves it
maker_turn : (block : ℕ) (content registers : List ℕ) (life : Option Life) → HasTurn block content false life
    → content ≡ after_life block registers life → TurnLeaves block content registers life
unfolding TurnLeaves
maker_turn block content registers None turn makes = absurd turn
maker_turn block content registers (Some life) turn makes =
    (right_before block registers life.ask.op (data_of life.ending) (subst (λ (r : List ℕ). ReadsRight block r (Some life)) makes turn), sym makes)

-- each later entry is not before an earlier one
InOrder : List Entry → Type 0
InOrder entries = AllPairs (λ a b. entry_below b a ≡ false) entries

-- no two entries are makers of one version
OneMaker : List Entry → Type 0
OneMaker entries = AllPairs (λ a b. a.reader ≡ false → b.reader ≡ false → a.stamp ≡ b.stamp → ⊥) entries

-- two makers of one version are one operation, which stands once
one_maker_from : (entries : List Entry) → IsDistinct eqb (map (λ e. e.operation) entries)
    → ((stamp : Stamp) (a b : Entry) → Contains entries a → Contains entries b → IsMaker stamp a → IsMaker stamp b → a.operation ≡ b.operation)
    → OneMaker entries
unfolding OneMaker
one_maker_from entries once same i j d less inside first second alike =
    let a : Entry = get_or entries i d in
    let b : Entry = get_or entries j d in
    let one : a.operation ≡ b.operation =
    same b.stamp a b (Contains-get_or entries i d (omega arith)) (Contains-get_or entries j d inside) (first, alike) (second, refl) in
    eqb-false _ _ (apart_from_distinct eqb (map (λ (e : Entry). e.operation) entries) i j 0 once less
    (omega (arith, length-map entries (λ (e : Entry). e.operation))))
    (get_or-map (λ (e : Entry). e.operation) entries i d 0 (omega arith) ∙ one ∙ sym (get_or-map (λ (e : Entry). e.operation) entries j d 0 inside))

module _ (block : ℕ) (marks : List Mark) (content : Stamp → List ℕ) (versions : List Stamp) (rising : Ascends versions) where
  abbrev version : ℕ → Stamp
  version k = version_at versions k

  abbrev count : ℕ
  count = length (first_stamp ∷ versions)

  -- the entry's version is that of a place from here on, and of a later place for a maker
  record Place (here : ℕ) (e : Entry) : Type 0 where
    at : ℕ
    from : here ≤ at
    inside : at < count
    is : version at ≡ e.stamp
    behind : e.reader ≡ false → here < at

  -- what is left of a walk that has come to the version at a place
  record Left (here : ℕ) (entries : List Entry) : Type 0 where
    order : InOrder entries
    single : OneMaker entries
    turns : HaveTurns block marks content entries
    placed : All (Place here) entries
    follow : (k : ℕ) → here ≤ k → k + 1 < count → Follows block marks content entries (version k) (version (k + 1))

  -- a version that was made from the one before has a maker
  made_from : (entries : List Entry) (u v : Stamp) → IsMadeFrom block marks content entries u v → IsMade entries v
  made_from entries u v made = (made.0, made.1, made.2, made.3, made.4.0)

  -- along versions that nothing left makes the content stays
  content_stays : (here : ℕ) (entries : List Entry) → Left here entries → (n j : ℕ) → j ≡ here + n → j < count
      → ((k : ℕ) → here < k → k ≤ j → IsMade entries (version k) → ⊥) → content (version j) ≡ content (version here)
  content_stays here entries left zero j is inside unmade = ap (λ (k : ℕ). content (version k)) (omega arith)
  content_stays here entries left (suc n) j is inside unmade =
      let before : ℕ = here + n in
      let next : before + 1 ≡ j = omega arith in
      let earlier : content (version before) ≡ content (version here) =
      content_stays here entries left n before refl (omega arith) (λ k above below. unmade k above (omega arith)) in
      let step : content (version (before + 1)) ≡ content (version before) =
      ⊎_elim
      (λ (made : IsMadeFrom block marks content entries (version before) (version (before + 1))).
      absurd (unmade (before + 1) (omega arith) (omega arith) (made_from entries (version before) (version (before + 1)) made)))
      (λ (back : IsWrittenBack content entries (version before) (version (before + 1))). back.1)
      (left.follow before (omega arith) (omega arith)) in
      ap (λ (k : ℕ). content (version k)) (sym next) ∙ step ∙ earlier

  -- nothing from an entry on makes a version below the entry's, nor, for a reader, the entry's own
  unmade_before : (e : Entry) (entries : List Entry) → InOrder (e ∷ entries) → (j k : ℕ) → j < count → version j ≡ e.stamp → k ≤ j
      → (e.reader ≡ false → k < j) → IsMade (e ∷ entries) (version k) → ⊥
  unfolding InOrder
  unmade_before e entries order j k inside at most maker (zero, f, within, is, (makes, stamp)) =
      let own : e.reader ≡ false = ap (λ (x : Entry). x.reader) is ∙ makes in
      let same : version k ≡ version j = sym stamp ∙ ap (λ (x : Entry). x.stamp) (sym is) ∙ sym at in
      places_differ versions rising k j (maker own) inside same
  unmade_before e entries order j k inside at most maker (suc i, f, within, is, (makes, stamp)) =
      let later : entry_below f e ≡ false = subst (λ (x : Entry). entry_below x e ≡ false) is (order 0 (suc i) f (omega arith) within) in
      let after = after_entry e f later in
      ⊎_elim
      (λ (less : k < j).
      let below : stamp_below f.stamp e.stamp ≡ true =
      subst (λ (s : Stamp). stamp_below s e.stamp ≡ true) (sym stamp)
      (subst (λ (s : Stamp). stamp_below (version k) s ≡ true) at (rises_far versions rising k j less inside)) in
      both_ways (stamp_below f.stamp e.stamp) after.0 below)
      (λ (least : j ≤ k).
      let here : j ≡ k = omega arith in
      let reads : e.reader ≡ true = ⊎_elim (λ (r : e.reader ≡ true). r) (λ (r : e.reader ≡ false). absurd (let less : k < j = maker r in omega arith))
      (cases_Bool e.reader) in
      after.1 reads makes (sym at ∙ ap version here ∙ sym stamp))
      (cases_lt k j)

  -- a reader finds its version's content
  reader_finds : (here : ℕ) (e : Entry) (entries : List Entry) → Left here (e ∷ entries) → (place : Place here e) → e.reader ≡ true
      → content (version here) ≡ content e.stamp
  reader_finds here e entries left place reads =
      let stays : content (version place.at) ≡ content (version here) =
      content_stays here (e ∷ entries) left (place.at - here) place.at (omega arith) place.inside
      (λ k above below. unmade_before e entries left.order place.at k place.inside place.is below
      (λ (makes : e.reader ≡ false). absurd (both_ways e.reader makes reads))) in
      sym stays ∙ ap content place.is

  -- the maker at the head of what is left is the one that its version has
  head_makes : (e : Entry) (entries : List Entry) (u : Stamp) → OneMaker (e ∷ entries) → e.reader ≡ false
      → IsMadeFrom block marks content (e ∷ entries) u e.stamp → content e.stamp ≡ after_life block (content u) (life_of marks e.operation)
  unfolding OneMaker
  head_makes e entries u single makes (zero, f, within, is, (maker, made)) =
      made ∙ ap (λ (x : Entry). after_life block (content u) (life_of marks x.operation)) (sym is)
  head_makes e entries u single makes (suc i, f, within, is, (maker, made)) =
      absurd (single 0 (suc i) f (omega arith) within makes (ap (λ (x : Entry). x.reader) is ∙ maker.0)
      (sym maker.1 ∙ ap (λ (x : Entry). x.stamp) (sym is)))

  -- a maker turns what it finds into its version's content
  maker_finds : (here : ℕ) (e : Entry) (entries : List Entry) → Left here (e ∷ entries) → (place : Place here e) → e.reader ≡ false
      → content e.stamp ≡ after_life block (content (version here)) (life_of marks e.operation)
  maker_finds here e entries left place makes =
      let above : here < place.at = place.behind makes in
      let before : ℕ = place.at - 1 in
      let next : before + 1 ≡ place.at = omega arith in
      let own : version (before + 1) ≡ e.stamp = ap version next ∙ place.is in
      let stays : content (version before) ≡ content (version here) =
      content_stays here (e ∷ entries) left (before - here) before (omega arith) (omega arith)
      (λ k over below. unmade_before e entries left.order place.at k place.inside place.is (omega arith) (λ _. omega arith)) in
      let step : Follows block marks content (e ∷ entries) (version before) e.stamp =
      subst (λ (s : Stamp). Follows block marks content (e ∷ entries) (version before) s) own (left.follow before (omega arith) (omega arith)) in
      ⊎_elim
      (λ (made : IsMadeFrom block marks content (e ∷ entries) (version before) e.stamp).
      head_makes e entries (version before) left.single makes made
      ∙ ap (λ (registers : List ℕ). after_life block registers (life_of marks e.operation)) stays)
      (λ (back : IsWrittenBack content (e ∷ entries) (version before) e.stamp).
      absurd (back.0 (0, e, omega arith, refl, (makes, refl))))
      step

  -- the entry at the head leaves its version's content
  head_leaves : (here : ℕ) (registers : List ℕ) (e : Entry) (entries : List Entry) → Left here (e ∷ entries) → registers ≡ content (version here)
      → TurnLeaves block (content e.stamp) registers (life_of marks e.operation)
  unfolding HaveTurns
  head_leaves here registers e entries left holds =
      let place = left.placed 0 e (omega arith) in
      let turn = left.turns 0 e (omega arith) in
      ⊎_elim
      (λ (reads : e.reader ≡ true).
      reader_turn block (content e.stamp) registers (life_of marks e.operation)
      (subst (λ (r : Bool). HasTurn block (content e.stamp) r (life_of marks e.operation)) reads turn)
      (holds ∙ reader_finds here e entries left place reads))
      (λ (makes : e.reader ≡ false).
      maker_turn block (content e.stamp) registers (life_of marks e.operation)
      (subst (λ (r : Bool). HasTurn block (content e.stamp) r (life_of marks e.operation)) makes turn)
      (maker_finds here e entries left place makes
      ∙ ap (λ (x : List ℕ). after_life block x (life_of marks e.operation)) (sym holds)))
      (cases_Bool e.reader)

  -- behind an entry, each entry's place is at or behind its own, and a maker's behind it
  place_on : (here j : ℕ) (e f : Entry) → j < count → version j ≡ e.stamp → entry_below f e ≡ false
      → (e.reader ≡ false → f.reader ≡ false → e.stamp ≡ f.stamp → ⊥) → Place here f → Place j f
  place_on here j e f inside is later single place =
      let after = after_entry e f later in
      let least : j ≤ place.at =
      place_after versions rising place.at j inside
      (subst (λ (s : Stamp). stamp_below s (version j) ≡ false) (sym place.is)
      (subst (λ (s : Stamp). stamp_below f.stamp s ≡ false) (sym is) after.0)) in
      record {
        at = place.at;
        from = least;
        inside = place.inside;
        is = place.is;
        behind = λ makes. ⊎_elim
            (λ (less : j < place.at). less)
            (λ (most : place.at ≤ j).
            let alike : j ≡ place.at = omega arith in
            let same : e.stamp ≡ f.stamp = sym is ∙ ap version alike ∙ place.is in
            absurd (⊎_elim
            (λ (reads : e.reader ≡ true). after.1 reads makes same)
            (λ (own : e.reader ≡ false). single own makes same)
            (cases_Bool e.reader)))
            (cases_lt j place.at);
      }

  -- behind an entry, later versions follow as before: the entry did not make them
  follow_on : (e : Entry) (entries : List Entry) (u v : Stamp) → (e.stamp ≡ v → ⊥) → Follows block marks content (e ∷ entries) u v
      → Follows block marks content entries u v
  follow_on e entries u v other (inl (zero, f, within, is, (maker, made))) = absurd (other (ap (λ (x : Entry). x.stamp) is ∙ maker.1))
  follow_on e entries u v other (inl (suc i, f, within, is, made)) = inl (i, f, omega arith, is, made)
  follow_on e entries u v other (inr (unmade, same)) = inr (λ made. unmade (suc made.0, made.1, omega (arith, made.2), made.3, made.4), same)

  -- what is left behind the entry at the head, which has come to its version
  left_on : (here : ℕ) (e : Entry) (entries : List Entry) → Left here (e ∷ entries) → (place : Place here e) → Left place.at entries
  unfolding InOrder OneMaker HaveTurns
  left_on here e entries left place = record {
    order = λ i k d less within. left.order (suc i) (suc k) d (omega arith) (omega arith);
    single = λ i k d less within. left.single (suc i) (suc k) d (omega arith) (omega arith);
    turns = λ k d within. left.turns (suc k) d (omega arith);
    placed = λ k d within. place_on here place.at e (get_or entries k d) place.inside place.is (left.order 0 (suc k) d (omega arith) (omega arith))
        (left.single 0 (suc k) d (omega arith) (omega arith)) (left.placed (suc k) d (omega arith));
    follow = λ k from within. follow_on e entries (version k) (version (k + 1))
        (λ same. places_differ versions rising place.at (k + 1) (omega arith) within (place.is ∙ same))
        (left.follow k (omega (arith, place.from)) within);
  }

  -- along the walk each answered read gives what the registers hold: the content of the version that the walk has come to
  positioned-reads_right : (here : ℕ) (registers : List ℕ) (p : ℕ) (entries : List Entry) → Left here entries → registers ≡ content (version here)
      → ReadsRightAlong block marks (positioned marks p entries) registers
  unfolding TurnLeaves
  positioned-reads_right here registers p [] left holds = tt
  positioned-reads_right here registers p (e ∷ entries) left holds =
      let place = left.placed 0 e (omega arith) in
      let leaves = head_leaves here registers e entries left holds in (
        leaves.0,
        positioned-reads_right place.at (after_life block registers (life_of marks e.operation))
            (max p (begin_of (life_of marks e.operation))) entries (left_on here e entries left place) (leaves.1 ∙ ap content (sym place.is)),
      )

  -- an entry of one of the versions, or that reads the first one, has its place
  first_place : (e : Entry) → IsOfVersion versions e → Place 0 e
  first_place e (inl (k, inside, is)) = record {
    at = suc k;
    from = omega arith;
    inside = omega arith;
    is = get_or_default versions k first_stamp e.stamp inside ∙ is;
    behind = λ _. omega arith;
  }
  first_place e (inr (first, reads)) = record {
    at = 0;
    from = omega arith;
    inside = omega arith;
    is = sym first;
    behind = λ makes. absurd (both_ways e.reader makes reads);
  }

-- a walk's happenings are strict
pub walk_is_strict : (m block : ℕ) (marks : List Mark) (content : Stamp → List ℕ) (versions : List Stamp) (entries : List Entry)
    → WalkFacts m block marks content versions entries → IsStrict m block marks (positioned marks 0 entries)
unfolding HaveTurns InOrder IsRealTime
walk_is_strict m block marks content versions entries facts = record {
  never_back = positioned-rise marks 0 entries;
  once = subst (IsDistinct eqb) (sym (map-positioned marks 0 entries)) facts.once;
  in_time = positioned-in_time block marks content 0 entries facts.turns facts.real_time (λ k d h. omega arith);
  answered_happen = λ n answered. subst (λ (numbers : List ℕ). Contains numbers n) (sym (map-positioned marks 0 entries))
      (facts.answered_stand n answered);
  reads_right =
      positioned-reads_right block marks content versions facts.versions_ascend 0 (zero_registers m block) 0 entries
      (record {
        order = λ i j d lt inside. sorted_far entry_below entry_order entries facts.ascending i j d (omega arith) inside;
        single = one_maker_from entries facts.once facts.one_maker;
        turns = facts.turns;
        placed = λ k d inside. first_place block marks content versions facts.versions_ascend (get_or entries k d) (facts.of_versions k d inside);
        follow = λ k from inside. facts.each_follows k first_stamp inside;
      })
      (sym facts.first_is_zero);
}
