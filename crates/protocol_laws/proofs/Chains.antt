-- The effective versions of a stripe: which was made on which, and that the sweep finds exactly these; of two neighbours the upper was
-- written whole, or was made on the lower.
use Rattle.std.proofs.Common.{◌≡◌, ℕ, zero, suc, ◌+◌, ◌<◌, ◌≤◌, ◌⊎◌, inl, inr, ⊎_elim, true, false, not, ◌&&◌, if◌then◌else◌, List, [], ◌∷◌, length, get_or, Option, Some, None, refl, sym, ap, ◌∙◌, subst, arith}
use Rattle.std.specs.Prelude.{nat_eq}
use Rattle.std.specs.List.{All, AllPairs, Contains}
use Rattle.std.proofs.lemmas.Bool.{cond_both, both_ways, cases_Bool, cases_lt, cases_eq, and_parts, and_from, not-true, not-false, eqb-true, eq-eqb}
use Rattle.std.proofs.lemmas.Option.{same_Some, slice_get_within, get_or_from_slice_get}
use Rattle.std.proofs.lemmas.List.{get_or_default}
use Rattle.std.proofs.lemmas.List.Elements.{All-head, All-tail, All-contains, All-contains_itself, All-weaker}
use Rattle.std.proofs.lemmas.List.Sorted.{All-permutation, Contains-permutation}
use Rattle.fab_base.specs.declared.stamps.Stamp.{Stamp}
use Rattle.fab_base.specs.declared.asks.Op.TheVariants.{WriteStripe}
use Rattle.fab_base.specs.Stamps.{stamp_below, stamp_same, first_stamp}
use Rattle.fab_base.proofs.StampOrder.{stamp_below_irrefl, stamp_not_below_trans, stamp_below_first, stamp_neither_below, stamp_same_refl, stamp_same_true}
use Rattle.reg_model.proofs.Bases.{BaseFacts, IsEffective, Standing, BaseOf, AreEffective, versions_of}
use Rattle.reg_model.specs.declared.entries.Entry.{Entry}
use Rattle.reg_model.proofs.Chains.{no_crossing}
use Rattle.reg_model.proofs.Versions.{versions_are_effective}
use Rattle.protocol.specs.Views.{Views}
use Rattle.protocol.specs.Settings.{Setting}
use Rattle.protocol.specs.Worlds.{World, Operation}
use Rattle.protocol.specs.Happenings.{is_of, entries_to, ascending, is_marked, was_answered, base_of, Effect, effect_of}
use Rattle.protocol_laws.specs.Laws.{WasMadeOn, NeighboursFollow, LowestFollows}
use Rattle.protocol_laws.proofs.Books.{Books, OperationBooks, IsOperation}
use Rattle.protocol_laws.proofs.Effects.{has_front, has_behind, IsSwept, IsAboveBase, answered_swept, needed_swept, version_swept, versions_all, versions_order, all_effective}
use Rattle.protocol_laws.proofs.Entries.{IsEntryOf, entry_of, entries_of, entries_have}
use Rattle.protocol_laws.proofs.QuorumFacts.{QuorumFacts, MakerFacts, BaseSays}
use Rattle.protocol_laws.proofs.Said.{IsMadeOrFirst, Stands, WritesWhole}
use Rattle.protocol_laws.proofs.Sorting.{InOrder, ascending_permutation, ascending_order}

-- what is above a stamp is above the first
pub above_first : (u v : Stamp) → stamp_below u v ≡ true → stamp_below first_stamp v ≡ true
above_first u v above = ⊎_elim
    (λ (over : stamp_below first_stamp v ≡ true). over)
    (λ (not_over : stamp_below first_stamp v ≡ false).
    absurd (both_ways (stamp_below u v) (stamp_not_below_trans v first_stamp u not_over (stamp_below_first u)) above))
    (cases_Bool (stamp_below first_stamp v))

-- the version that t was made on, by its maker among the entries
abbrev pub base_in : (ℕ → Option Operation) → List Entry → Stamp → Option Stamp
base_in operations [] t = None
base_in operations (e ∷ entries) t =
    if not e.reader && stamp_same e.stamp t then base_of (operations e.operation) else base_in operations entries t

-- a maker of t with this base
record FoundBase (operations : ℕ → Option Operation) (entries : List Entry) (t b : Stamp) : Type 0 where
  entry : Entry
  stands : Contains entries entry
  maker : entry.reader ≡ false
  stamp : entry.stamp ≡ t
  base : base_of (operations entry.operation) ≡ Some b

base_in_found : (operations : ℕ → Option Operation) (entries : List Entry) (t b : Stamp) → base_in operations entries t ≡ Some b
    → FoundBase operations entries t b
base_in_found operations [] t b is = absurd (let never : None ≡ Some b = is in cc)
base_in_found operations (e ∷ entries) t b is =
    let rest : base_in operations entries t ≡ Some b → FoundBase operations entries t b = base_in_found operations entries t b in
    cond_both (not e.reader && stamp_same e.stamp t) (base_of (operations e.operation)) (base_in operations entries t)
    (λ (z : Option Stamp). z ≡ Some b → FoundBase operations (e ∷ entries) t b)
    (λ here found.
    let parts = and_parts (not e.reader) (stamp_same e.stamp t) here in
    record { entry = e; stands = has_front e entries; maker = not-true e.reader parts.0; stamp = stamp_same_true e.stamp t parts.1; base = found })
    (λ there found.
    let made : FoundBase operations entries t b = rest found in
    record { entry = made.entry; stands = has_behind e entries made.entry made.stands; maker = made.maker; stamp = made.stamp; base = made.base })
    is

-- it is that of each maker of t, where these agree
base_in_is : (operations : ℕ → Option Operation) (entries : List Entry) (e : Entry)
    → All (λ x. x.reader ≡ false → x.stamp ≡ e.stamp → base_of (operations x.operation) ≡ base_of (operations e.operation)) entries
    → Contains entries e → e.reader ≡ false → base_in operations entries e.stamp ≡ base_of (operations e.operation)
base_in_is operations [] e agree has maker = absurd (let at : has.0 < 0 = has.1 in omega arith)
base_in_is operations (x ∷ entries) e agree has maker =
    let Agrees : Entry → Type 0
    = λ (y : Entry). y.reader ≡ false → y.stamp ≡ e.stamp → base_of (operations y.operation) ≡ base_of (operations e.operation) in
    let rest : Contains entries e → base_in operations entries e.stamp ≡ base_of (operations e.operation) =
    λ behind. base_in_is operations entries e (All-tail Agrees x entries agree) behind maker in
    cond_both (not x.reader && stamp_same x.stamp e.stamp) (base_of (operations x.operation)) (base_in operations entries e.stamp)
    (λ (z : Option Stamp). z ≡ base_of (operations e.operation))
    (λ here.
    let parts = and_parts (not x.reader) (stamp_same x.stamp e.stamp) here in
    All-head Agrees x entries agree (not-true x.reader parts.0) (stamp_same_true x.stamp e.stamp parts.1))
    (λ there. rest (behind has there))
  where
    behind : Contains (x ∷ entries) e → (not x.reader && stamp_same x.stamp e.stamp) ≡ false → Contains entries e
    behind (zero, lt, is) there =
        absurd (both_ways (not x.reader && stamp_same x.stamp e.stamp) there
        (subst (λ (y : Entry). (not y.reader && stamp_same y.stamp e.stamp) ≡ true) (sym is)
        (and_from (not e.reader) (stamp_same e.stamp e.stamp) (ap not maker) (stamp_same_refl e.stamp))))
    behind (suc k, lt, is) there = (k, omega arith, is)

module _ (setting : Setting) (views : Views) (w : World) (g s : ℕ) (books : Books setting w) (facts : QuorumFacts setting views w) where
  -- the entries of the stripe's operations, in order, and what the sweep finds
  abbrev entries : List Entry
  entries = ascending (entries_to w.operations g s w.begun)

  abbrev effect : Effect
  effect = effect_of w.operations (ascending (entries_to w.operations g s w.begun))

  abbrev IsOurs : Entry → Type 0
  IsOurs e = IsEntryOf w.operations g s e

  pub entries_ours : All (λ e. IsEntryOf w.operations g s e) (ascending (entries_to w.operations g s w.begun))
  entries_ours =
      All-permutation IsOurs (entries_to w.operations g s w.begun) entries (ascending_permutation (entries_to w.operations g s w.begun))
      (entries_of w.operations g s w.begun)

  ours : (e : Entry) → Contains entries e → IsOurs e
  ours e has = All-contains IsOurs entries e entries_ours has

  -- an operation of the stripe that made or read a version has its entry
  pub has_entry : (n : ℕ) (o : Operation) (t : Stamp) → IsOperation w n o → is_of g s o ≡ true → o.version ≡ Some t
      → Contains (ascending (entries_to w.operations g s w.begun)) (entry_of n o t)
  has_entry n o t is of version =
      let mine : OperationBooks setting w n o = books.operations n o is in
      Contains-permutation (entries_to w.operations g s w.begun) entries (entry_of n o t)
      (ascending_permutation (entries_to w.operations g s w.begun))
      (entries_have w.operations g s w.begun n o t mine.from_one mine.begun is of version)

  -- an operation of the stripe is of its group and number
  pub stripe_of : (o : Operation) → is_of g s o ≡ true → (o.ask.group.0 ≡ g) × (o.ask.stripe.0 ≡ s)
  stripe_of o of =
      let parts = and_parts (nat_eq o.ask.group.0 g) (nat_eq o.ask.stripe.0 s) of in
      (eqb-true o.ask.group.0 g parts.0, eqb-true o.ask.stripe.0 s parts.1)

  -- an entry that makes is of an operation that made
  pub maker_made : (e : Entry) (mine : IsEntryOf w.operations g s e) → e.reader ≡ false → mine.operation.made ≡ true
  maker_made e mine maker = not-false mine.operation.made (sym mine.reader ∙ maker)

  pub maker_facts : (e : Entry) (mine : IsEntryOf w.operations g s e) → e.reader ≡ false → MakerFacts setting views w mine.operation e.stamp
  maker_facts e mine maker = facts.maker e.operation mine.operation e.stamp mine.is (maker_made e mine maker) mine.version

  -- two makers of one version are one operation
  pub one_maker : (a b : Entry) → Contains (ascending (entries_to w.operations g s w.begun)) a
      → Contains (ascending (entries_to w.operations g s w.begun)) b
      → a.reader ≡ false → b.reader ≡ false → a.stamp ≡ b.stamp → a.operation ≡ b.operation
  one_maker a b a_has b_has a_maker b_maker same =
      let first : IsOurs a = ours a a_has in
      let second : IsOurs b = ours b b_has in
      facts.maker_unique a.operation b.operation first.operation second.operation a.stamp first.is second.is (maker_made a first a_maker)
      (maker_made b second b_maker) first.version (second.version ∙ ap (λ (t : Stamp). Some t) (sym same))

  -- the base of a version
  abbrev pub base : Stamp → Option Stamp
  base t = base_in w.operations (ascending (entries_to w.operations g s w.begun)) t

  pub base_is : (e : Entry) → Contains (ascending (entries_to w.operations g s w.begun)) e → e.reader ≡ false
      → base_in w.operations (ascending (entries_to w.operations g s w.begun)) e.stamp ≡ base_of (w.operations e.operation)
  base_is e has maker = base_in_is w.operations entries e
      (All-weaker (Contains entries)
      (λ (x : Entry). x.reader ≡ false → x.stamp ≡ e.stamp → base_of (w.operations x.operation) ≡ base_of (w.operations e.operation))
      (λ x there reads same. ap (λ (n : ℕ). base_of (w.operations n)) (one_maker x e there has reads maker same))
      entries (All-contains_itself entries))
      has maker

  -- a maker with a base read it back
  record MadeBack (e : Entry) (b : Stamp) : Type 0 where
    mine : IsOurs e
    says : BaseSays setting views w mine.operation e.stamp
    base_is : says.base ≡ b

  maker_base : (e : Entry) → Contains entries e → e.reader ≡ false → (b : Stamp) → base_of (w.operations e.operation) ≡ Some b → MadeBack e b
  maker_base e has maker b is = by (maker_facts e mine maker).how
    where
      mine : IsOurs e
      mine = ours e has

      own : mine.operation.base ≡ Some b
      own = sym (ap (λ (o : Option Operation). base_of o) mine.is) ∙ is

      by : WritesWhole w mine.operation e.stamp ⊎ BaseSays setting views w mine.operation e.stamp → MadeBack e b
      by (inl whole) = absurd (let never : None ≡ Some b = sym whole.0 ∙ own in cc)
      by (inr says) = record { mine = mine; says = says; base_is = same_Some says.base b (sym says.base_is ∙ own) }

  -- the version of an answered operation that has marks
  pub record IsAnsweredVersion (t : Stamp) : Type 0 where
    pub number : ℕ
    pub operation : Operation
    pub is : IsOperation w number operation
    pub of : is_of g s operation ≡ true
    pub version : operation.version ≡ Some t
    pub marked : is_marked operation ≡ true
    pub answered : operation.answered ≡ true

  -- is held by a quorum
  answered_stands : (t : Stamp) → IsAnsweredVersion t → Stands setting views w g s t
  answered_stands t v =
      let at : (v.operation.ask.group.0 ≡ g) × (v.operation.ask.stripe.0 ≡ s) = stripe_of v.operation v.of in
      subst (λ (x : ℕ). Stands setting views w x s t) at.0
      (subst (λ (y : ℕ). Stands setting views w v.operation.ask.group.0 y t) at.1 (facts.stands v.number v.operation t v.is v.version (inr v.answered)))

  -- what is known of bases
  pub base_facts : BaseFacts IsAnsweredVersion (base_in w.operations (ascending (entries_to w.operations g s w.begun)))
  base_facts = record {
    below = λ t b is.
        (let found : FoundBase w.operations entries t b = base_in_found w.operations entries t b is in
        let back : MadeBack found.entry b = maker_base found.entry found.stands found.maker b found.base in
        subst (λ (x : Stamp). stamp_below x t ≡ true) back.base_is
        (subst (λ (x : Stamp). stamp_below back.says.base x ≡ true) found.stamp back.says.below));
    none_between = λ t b u is answered between.
        (let found : FoundBase w.operations entries t b = base_in_found w.operations entries t b is in
        let back : MadeBack found.entry b = maker_base found.entry found.stands found.maker b found.base in
        let at : (back.mine.operation.ask.group.0 ≡ g) × (back.mine.operation.ask.stripe.0 ≡ s) = stripe_of back.mine.operation back.mine.of in
        back.says.none_between u
        (subst (λ (x : ℕ). Stands setting views w x back.mine.operation.ask.stripe.0 u) (sym at.0)
        (subst (λ (y : ℕ). Stands setting views w g y u) (sym at.1) (answered_stands u answered)))
        (subst (λ (x : Stamp). stamp_below x u ≡ true) (sym back.base_is) between.0)
        (subst (λ (x : Stamp). stamp_below u x ≡ true) (sym found.stamp) between.1));
  }

  -- each entry's base is below its version
  above_bases : All (IsAboveBase w.operations) entries
  above_bases = All-weaker (Contains entries) (IsAboveBase w.operations)
      (λ e has b maker is.
      (let back : MadeBack e b = maker_base e has maker b is in subst (λ (x : Stamp). stamp_below x e.stamp ≡ true) back.base_is back.says.below))
      entries (All-contains_itself entries)

  order : InOrder entries
  order = ascending_order (entries_to w.operations g s w.begun)

  -- a version's maker is effective, where the version is
  pub maker_swept : (t : Stamp) → Contains (effect_of w.operations (ascending (entries_to w.operations g s w.begun))).versions t
      → (m : Entry) → Contains (ascending (entries_to w.operations g s w.begun)) m → m.reader ≡ false → m.stamp ≡ t
      → (r : Entry) × Contains (ascending (entries_to w.operations g s w.begun)) r × (r.reader ≡ false) × (r.stamp ≡ t)
      × IsSwept w.operations (effect_of w.operations (ascending (entries_to w.operations g s w.begun))) r
  maker_swept t has m stands maker stamp = version_swept w.operations entries order above_bases t has m stands maker stamp

  -- the sweep finds effective only what is
  pub versions_effective :
      All (λ t. IsEffective IsAnsweredVersion (base_in w.operations (ascending (entries_to w.operations g s w.begun))) t)
      (effect_of w.operations (ascending (entries_to w.operations g s w.begun))).versions
  versions_effective =
      (all_effective w.operations IsAnsweredVersion base entries
      (All-weaker IsOurs (λ (e : Entry). was_answered (w.operations e.operation) ≡ true → IsAnsweredVersion e.stamp)
      (λ e mine was. (let parts = and_parts (is_marked mine.operation) mine.operation.answered
      (sym (ap (λ (o : Option Operation). was_answered o) mine.is) ∙ was) in record {
        number = e.operation;
        operation = mine.operation;
        is = mine.is;
        of = mine.of;
        version = mine.version;
        marked = parts.0;
        answered = parts.1;
      }))
      entries entries_ours)
      (All-weaker (Contains entries) (λ (e : Entry). e.reader ≡ false → base e.stamp ≡ base_of (w.operations e.operation))
      (λ e has maker. base_is e has maker)
      entries (All-contains_itself entries))).0

  -- a version above the first, made by an operation of the stripe
  pub record MadeVersion (t : Stamp) : Type 0 where
    pub number : ℕ
    pub operation : Operation
    pub is : IsOperation w number operation
    pub of : is_of g s operation ≡ true
    pub made : operation.made ≡ true
    pub version : operation.version ≡ Some t

  made_or_first : (group stripe : ℕ) (t : Stamp) → group ≡ g → stripe ≡ s → stamp_below first_stamp t ≡ true → IsMadeOrFirst w group stripe t
      → MadeVersion t
  made_or_first group stripe t at_group at_stripe above (inl first) =
      absurd (both_ways (stamp_below first_stamp first_stamp) (stamp_below_irrefl first_stamp)
      (subst (λ (x : Stamp). stamp_below first_stamp x ≡ true) first above))
  made_or_first group stripe t at_group at_stripe above (inr (n, o, is, its_group, its_stripe, made, version)) =
      record {
        number = n;
        operation = o;
        is = is;
        of = and_from _ _ (eq-eqb o.ask.group.0 g (its_group ∙ at_group)) (eq-eqb o.ask.stripe.0 s (its_stripe ∙ at_stripe));
        made = made;
        version = version;
      }

  -- an entry's version is made, where it is above the first
  pub entry_made : (e : Entry) → IsEntryOf w.operations g s e → stamp_below first_stamp e.stamp ≡ true → MadeVersion e.stamp
  entry_made e mine above = ⊎_elim
      (λ (made : mine.operation.made ≡ true).
      record { number = e.operation; operation = mine.operation; is = mine.is; of = mine.of; made = made; version = mine.version })
      (λ (unmade : mine.operation.made ≡ false).
      let at : (mine.operation.ask.group.0 ≡ g) × (mine.operation.ask.stripe.0 ≡ s) = stripe_of mine.operation mine.of in
      made_or_first mine.operation.ask.group.0 mine.operation.ask.stripe.0 e.stamp at.0 at.1 above
      (facts.reader e.operation mine.operation e.stamp mine.is unmade mine.version).made)
      (cases_Bool mine.operation.made)

  -- the maker's entry
  pub maker_entry : (t : Stamp) (v : MadeVersion t) → Contains (ascending (entries_to w.operations g s w.begun)) (entry_of v.number v.operation t)
  maker_entry t v = has_entry v.number v.operation t v.is v.of v.version

  pub maker_reads : (t : Stamp) (v : MadeVersion t) → (entry_of v.number v.operation t).reader ≡ false
  maker_reads t v = ap not v.made

  -- and an effective version's base is needed
  base_needed : (t b : Stamp) → Contains effect.versions t → base t ≡ Some b → Contains effect.needed b
  base_needed t b has is =
      let found : FoundBase w.operations entries t b = base_in_found w.operations entries t b is in
      let swept = maker_swept t has found.entry found.stands found.maker found.stamp in
      let same : base_of (w.operations swept.0.operation) ≡ Some b
      = sym (base_is swept.0 swept.1 swept.2) ∙ ap (λ (x : Stamp). base x) swept.3 ∙ is in
      swept.4.base b swept.2 same

  -- and found effective, where it is above the first
  base_found : (t b : Stamp) → Contains effect.versions t → base t ≡ Some b → stamp_below first_stamp b ≡ true → Contains effect.versions b
  base_found t b has is above =
      let found : FoundBase w.operations entries t b = base_in_found w.operations entries t b is in
      let back : MadeBack found.entry b = maker_base found.entry found.stands found.maker b found.base in
      let at : (back.mine.operation.ask.group.0 ≡ g) × (back.mine.operation.ask.stripe.0 ≡ s) = stripe_of back.mine.operation back.mine.of in
      let made : MadeVersion b = made_or_first back.mine.operation.ask.group.0 back.mine.operation.ask.stripe.0 b at.0 at.1 above
      (subst (λ (x : Stamp). IsMadeOrFirst w back.mine.operation.ask.group.0 back.mine.operation.ask.stripe.0 x) back.base_is back.says.made) in
      (needed_swept w.operations entries order above_bases b (base_needed t b has is) (entry_of made.number made.operation b) (maker_entry b made)
      (maker_reads b made) refl).version

  -- the sweep finds all that is effective
  pub complete : (t : Stamp) → IsEffective IsAnsweredVersion (base_in w.operations (ascending (entries_to w.operations g s w.begun))) t
      → stamp_below first_stamp t ≡ true → Contains (effect_of w.operations (ascending (entries_to w.operations g s w.begun))).versions t
  complete t (Standing _ v) above =
      (answered_swept w.operations entries (entry_of v.number v.operation t) (has_entry v.number v.operation t v.is v.of v.version)
      (ap (λ (o : Option Operation). was_answered o) v.is ∙ and_from _ _ v.marked v.answered)).version
  complete t (BaseOf p _ effective on) above =
      base_found p t (complete p effective (above_first t p (base_facts.below p t on))) on above

  -- the effective versions above the first, each once
  pub are_effective : AreEffective IsAnsweredVersion (base_in w.operations (ascending (entries_to w.operations g s w.begun)))
      (versions_of (effect_of w.operations (ascending (entries_to w.operations g s w.begun))).versions)
  are_effective = versions_are_effective IsAnsweredVersion base effect.versions versions_effective complete

  -- each effective version has an entry
  record HasEntry (t : Stamp) : Type 0 where
    entry : Entry
    mine : IsOurs entry
    stamp : entry.stamp ≡ t

  versions_have : All HasEntry effect.versions
  versions_have = versions_all w.operations HasEntry entries
      (All-weaker IsOurs (λ (e : Entry). HasEntry e.stamp) (λ e mine. record { entry = e; mine = mine; stamp = refl }) entries entries_ours)

  -- an effective version above the first was made
  pub version_made : (t : Stamp) → Contains (effect_of w.operations (ascending (entries_to w.operations g s w.begun))).versions t
      → stamp_below first_stamp t ≡ true → MadeVersion t
  version_made t has above =
      let its : HasEntry t = All-contains HasEntry effect.versions t versions_have has in
      subst (λ (x : Stamp). MadeVersion x) its.stamp
      (entry_made its.entry its.mine (subst (λ (x : Stamp). stamp_below first_stamp x ≡ true) (sym its.stamp) above))

  -- no version stands between two neighbours
  none_between_neighbours : (k : ℕ) (u t b : Stamp) → k + 1 < length effect.versions → get_or effect.versions k first_stamp ≡ u
      → get_or effect.versions (k + 1) first_stamp ≡ t → Contains effect.versions b → stamp_below u b ≡ true → stamp_below b t ≡ true → ⊥
  none_between_neighbours k u t b inside at_u at_t (j, lt, at_b) above below =
      let pairs : AllPairs (λ (x y : Stamp). stamp_below y x ≡ false) effect.versions = versions_order w.operations entries order in
      let here : get_or effect.versions j first_stamp ≡ b = default j first_stamp b lt ∙ at_b in
      ⊎_elim
      (λ (low : j < k + 1). ⊎_elim
      (λ (same : j ≡ k).
      let one : u ≡ b = sym at_u ∙ ap (λ (i : ℕ). get_or effect.versions i first_stamp) (sym same) ∙ here in
      both_ways (stamp_below b b) (stamp_below_irrefl b) (subst (λ (x : Stamp). stamp_below x b ≡ true) one above))
      (λ (other : j ≡ k → ⊥).
      both_ways (stamp_below u b)
      (subst (λ (x : Stamp). stamp_below x b ≡ false) at_u
      (subst (λ (x : Stamp). stamp_below (get_or effect.versions k first_stamp) x ≡ false) here (pairs j k first_stamp (omega arith) (omega arith))))
      above)
      (cases_eq j k))
      (λ (high : k + 1 ≤ j). ⊎_elim
      (λ (same : j ≡ k + 1).
      let one : b ≡ t = sym here ∙ ap (λ (i : ℕ). get_or effect.versions i first_stamp) same ∙ at_t in
      both_ways (stamp_below b b) (stamp_below_irrefl b) (subst (λ (x : Stamp). stamp_below b x ≡ true) (sym one) below))
      (λ (other : j ≡ k + 1 → ⊥).
      both_ways (stamp_below b t)
      (subst (λ (x : Stamp). stamp_below x t ≡ false) here
      (subst (λ (x : Stamp). stamp_below (get_or effect.versions j first_stamp) x ≡ false) at_t
      (pairs (k + 1) j first_stamp (omega arith) (omega arith))))
      below)
      (cases_eq j (k + 1)))
      (cases_lt j (k + 1))
    where
      default : (i : ℕ) (d e : Stamp) → i < length effect.versions → get_or effect.versions i d ≡ get_or effect.versions i e
      default i d e at = get_or_default effect.versions i d e at

  -- of two effective neighbours, a base of the upper is the lower
  base_is_lower : (k : ℕ) (u t b : Stamp) → k + 1 < length effect.versions → get_or effect.versions k first_stamp ≡ u
      → get_or effect.versions (k + 1) first_stamp ≡ t → stamp_below u t ≡ true → base t ≡ Some b → b ≡ u
  base_is_lower k u t b inside at_u at_t above is =
      let IsE : Stamp → Type 0 = λ x. IsEffective IsAnsweredVersion base x in
      let upper : IsE t = subst (λ (x : Stamp). IsE x) at_t (versions_effective (k + 1) first_stamp inside) in
      let lower : IsE u = subst (λ (x : Stamp). IsE x) at_u (versions_effective k first_stamp (omega arith)) in
      let not_under : stamp_below b u ≡ false = ⊎_elim
      (λ (under : stamp_below b u ≡ true). absurd (no_crossing IsAnsweredVersion base base_facts t b u upper is lower (under, above)))
      (λ (isnt : stamp_below b u ≡ false). isnt)
      (cases_Bool (stamp_below b u)) in
      let not_over : stamp_below u b ≡ false = ⊎_elim
      (λ (over : stamp_below u b ≡ true).
      absurd (none_between_neighbours k u t b inside at_u at_t (complete b (BaseOf t b upper is) (above_first u b over)) over
      (base_facts.below t b is)))
      (λ (isnt : stamp_below u b ≡ false). isnt)
      (cases_Bool (stamp_below u b)) in
      stamp_neither_below b u not_under not_over

  -- nothing effective is below the lowest
  none_below_lowest : (t b : Stamp) → 0 < length effect.versions → get_or effect.versions 0 first_stamp ≡ t → Contains effect.versions b
      → stamp_below b t ≡ true → ⊥
  none_below_lowest t b inside at_t (j, lt, at_b) below =
      let here : get_or effect.versions j first_stamp ≡ b = get_or_default effect.versions j first_stamp b lt ∙ at_b in
      ⊎_elim
      (λ (same : j ≡ 0).
      let one : b ≡ t = sym here ∙ ap (λ (i : ℕ). get_or effect.versions i first_stamp) same ∙ at_t in
      both_ways (stamp_below b b) (stamp_below_irrefl b) (subst (λ (x : Stamp). stamp_below b x ≡ true) (sym one) below))
      (λ (other : j ≡ 0 → ⊥).
      both_ways (stamp_below b t)
      (subst (λ (x : Stamp). stamp_below x t ≡ false) here
      (subst (λ (x : Stamp). stamp_below (get_or effect.versions j first_stamp) x ≡ false) at_t
      (versions_order w.operations entries order 0 j first_stamp (omega arith) (omega arith))))
      below)
      (cases_eq j 0)

  -- the lowest effective version is the first one, or was written whole, or was made on the first one
  pub lowest_follows : LowestFollows w g s
  lowest_follows t t_is = ⊎_elim
      (λ (above : stamp_below first_stamp t ≡ true). inr (by above))
      (λ (not_above : stamp_below first_stamp t ≡ false). inl (sym (stamp_neither_below first_stamp t not_above (stamp_below_first t))))
      (cases_Bool (stamp_below first_stamp t))
    where
      inside : 0 < length effect.versions
      inside = slice_get_within effect.versions 0 t t_is

      at_t : get_or effect.versions 0 first_stamp ≡ t
      at_t = get_or_from_slice_get effect.versions 0 t first_stamp t_is

      base_is_first : (b : Stamp) → base t ≡ Some b → b ≡ first_stamp
      base_is_first b is =
          let upper : IsEffective IsAnsweredVersion base t
          = subst (λ (x : Stamp). IsEffective IsAnsweredVersion base x) at_t (versions_effective 0 first_stamp inside) in
          sym (stamp_neither_below first_stamp b
          (⊎_elim
          (λ (over : stamp_below first_stamp b ≡ true).
          absurd (none_below_lowest t b inside at_t (complete b (BaseOf t b upper is) over) (base_facts.below t b is)))
          (λ (isnt : stamp_below first_stamp b ≡ false). isnt)
          (cases_Bool (stamp_below first_stamp b)))
          (stamp_below_first b))

      how_made : (v : MadeVersion t) → WritesWhole w v.operation t ⊎ BaseSays setting views w v.operation t
          → ((bytes : List ℕ) × (v.operation.ask.op ≡ WriteStripe bytes)) ⊎ (v.operation.base ≡ Some first_stamp)
      how_made v (inl whole) = inl (_, whole.1)
      how_made v (inr says) =
          let its : base t ≡ Some says.base = base_is (entry_of v.number v.operation t) (maker_entry t v) (maker_reads t v)
          ∙ ap (λ (o : Option Operation). base_of o) v.is ∙ says.base_is in
          inr (says.base_is ∙ ap (λ (x : Stamp). Some x) (base_is_first says.base its))

      by : stamp_below first_stamp t ≡ true → WasMadeOn w g s first_stamp t
      by above =
          let v : MadeVersion t = version_made t (0, inside, get_or_from_slice_get effect.versions 0 t t t_is) above in
          (v.number, v.operation, v.is, v.of, v.made, v.version, how_made v (facts.maker v.number v.operation t v.is v.made v.version).how)

  -- of two neighbours, the upper was written whole, or was made on the lower
  pub neighbours_follow : NeighboursFollow w g s
  neighbours_follow k u t u_is t_is = ⊎_elim
      (λ (above : stamp_below u t ≡ true). inr (by above))
      (λ (not_above : stamp_below u t ≡ false).
      inl (stamp_neither_below u t not_above
      (subst (λ (x : Stamp). stamp_below x u ≡ false) at_t
      (subst (λ (x : Stamp). stamp_below (get_or effect.versions (k + 1) first_stamp) x ≡ false) at_u
      (versions_order w.operations entries order k (k + 1) first_stamp (omega arith) inside)))))
      (cases_Bool (stamp_below u t))
    where
      inside : k + 1 < length effect.versions
      inside = slice_get_within effect.versions (k + 1) t t_is

      at_u : get_or effect.versions k first_stamp ≡ u
      at_u = get_or_from_slice_get effect.versions k u first_stamp u_is

      at_t : get_or effect.versions (k + 1) first_stamp ≡ t
      at_t = get_or_from_slice_get effect.versions (k + 1) t first_stamp t_is

      how_made : stamp_below u t ≡ true → (v : MadeVersion t) → WritesWhole w v.operation t ⊎ BaseSays setting views w v.operation t
          → ((bytes : List ℕ) × (v.operation.ask.op ≡ WriteStripe bytes)) ⊎ (v.operation.base ≡ Some u)
      how_made above v (inl whole) = inl (_, whole.1)
      how_made above v (inr says) =
          let its : base t ≡ Some says.base = base_is (entry_of v.number v.operation t) (maker_entry t v) (maker_reads t v)
          ∙ ap (λ (o : Option Operation). base_of o) v.is ∙ says.base_is in
          inr (says.base_is ∙ ap (λ (x : Stamp). Some x) (base_is_lower k u t says.base inside at_u at_t above its))

      by : stamp_below u t ≡ true → WasMadeOn w g s u t
      by above =
          let v : MadeVersion t = version_made t (k + 1, inside, get_or_from_slice_get effect.versions (k + 1) t t t_is) (above_first u t above) in
          (v.number, v.operation, v.is, v.of, v.made, v.version, how_made above v (facts.maker v.number v.operation t v.is v.made v.version).how)
