-- The sweep along a stripe's entries that ascend, from the greatest down: which it finds effective, and what it tells.
use Rattle.std.proofs.Common.{◌≡◌, ℕ, zero, suc, ◌⊎◌, inl, inr, ⊎_elim, Bool, true, false, ◌||◌, cond, List, [], ◌∷◌, ◌++◌, Option, Some, None, refl, sym, ap, ◌∙◌, subst, arith}
use Rattle.std.specs.Option.{option_to_list}
use Rattle.std.specs.List.{All, AllPairs, Contains}
use Rattle.std.proofs.lemmas.Bool.{cond_both, both_ways, cases_Bool, or_cases, or_left, or_right}
use Rattle.std.proofs.lemmas.List.Elements.{All-cons, All-nil, All-head, All-tail, All-append, All-weaker, All-contains, Contains-append_left, Contains-append_right, Contains-append_cases}
use Rattle.std.proofs.lemmas.List.Folds.{Any-from_list_any}
use Rattle.std.proofs.lemmas.List.Kept.{AllPairs-cons}
use Rattle.fab_base.specs.declared.stamps.Stamp.{Stamp}
use Rattle.fab_base.specs.Stamps.{stamp_below, stamp_same}
use Rattle.fab_base.proofs.StampOrder.{stamp_below_irrefl, stamp_same_refl, stamp_same_true}
use Rattle.reg_model.proofs.Bases.{IsEffective, Standing, BaseOf}
use Rattle.reg_model.specs.declared.entries.Entry.{Entry}
use Rattle.reg_model.specs.Walk.{entry_below}
use Rattle.reg_model.proofs.EntryOrder.{after_entry}
use Rattle.protocol.specs.Worlds.{Operation}
use Rattle.protocol.specs.Happenings.{was_answered, is_told, base_of, is_among, Effect, needs, effect_of}
use Rattle.protocol_laws.proofs.Entries.{any_passes}
use Rattle.protocol_laws.proofs.Sorting.{InOrder, AllPairs-head, AllPairs-tail}

-- what a list has is in front, or behind
pub has_front : {A : Type 0} (x : A) (xs : List A) → Contains (x ∷ xs) x
has_front x xs = (0, omega arith, refl)

pub has_behind : {A : Type 0} (y : A) (xs : List A) (x : A) → Contains xs x → Contains (y ∷ xs) x
has_behind y xs x (k, inside, is) = (suc k, omega arith, is)

pub has_cases : {A : Type 0} (y : A) (xs : List A) (x : A) → Contains (y ∷ xs) x → (y ≡ x) ⊎ Contains xs x
has_cases y xs x (zero, inside, is) = inl is
has_cases y xs x (suc k, inside, is) = inr (k, omega arith, is)

has_none : {A : Type 0} (x : A) → Contains [] x → ⊥
has_none x (k, inside, is) = omega arith

-- what is found among stamps stands there
among_has : (t : Stamp) (stamps : List Stamp) → is_among t stamps ≡ true → Contains stamps t
among_has t stamps is =
    let found = Any-from_list_any (λ (u : Stamp). stamp_same u t) stamps is in
    subst (λ (u : Stamp). Contains stamps u) (stamp_same_true found.1 t found.4) (found.0, found.2, found.3)

has_among : (t : Stamp) (stamps : List Stamp) → Contains stamps t → is_among t stamps ≡ true
has_among t stamps has = any_passes (λ (u : Stamp). stamp_same u t) stamps t has (stamp_same_refl t)

-- what an entry needs: the version that it reads, or its base
needs_cases : (r : Bool) (t : Stamp) (b : Option Stamp) (u : Stamp) → Contains (cond r (t ∷ []) (option_to_list b)) u
    → ((r ≡ true) × (t ≡ u)) ⊎ ((r ≡ false) × (b ≡ Some u))
needs_cases true t b u has = inl (refl, ⊎_elim (λ (here : t ≡ u). here) (λ (rest : Contains [] u). absurd (has_none u rest)) (has_cases t [] u has))
needs_cases false t None u has = absurd (has_none u has)
needs_cases false t (Some b) u has =
    inr (
      refl,
      ap (λ (x : Stamp). Some x) (⊎_elim (λ (here : b ≡ u). here) (λ (rest : Contains [] u). absurd (has_none u rest))
          (has_cases b [] u has)),
    )

needs_all : (P : Stamp → Type 0) (r : Bool) (t : Stamp) (b : Option Stamp) → (r ≡ true → P t) → ((u : Stamp) → r ≡ false → b ≡ Some u → P u)
    → All P (cond r (t ∷ []) (option_to_list b))
needs_all P true t b reads made = All-cons P t [] (reads refl) (All-nil P)
needs_all P false t None reads made = All-nil P
needs_all P false t (Some b) reads made = All-cons P b [] (made b refl refl) (All-nil P)

-- more is effective
record Grows (above later : Effect) : Type 0 where
  told : (e : Entry) → Contains above.told e → Contains later.told e
  versions : (t : Stamp) → Contains above.versions t → Contains later.versions t
  needed : (t : Stamp) → Contains above.needed t → Contains later.needed t

-- an effective entry before others
abbrev with_effective : Option Operation → Entry → Effect → Effect
with_effective o e above =
    record {
      told = cond (is_told o) (e ∷ above.told) above.told;
      versions = e.stamp ∷ above.versions;
      needed = needs o e ++ above.needed;
    }

-- whether an entry before others is effective
abbrev is_effective : Option Operation → Entry → Effect → Bool
is_effective o e above = was_answered o || is_among e.stamp above.needed

grows_with : (o : Option Operation) (e : Entry) (above : Effect) → Grows above (with_effective o e above)
grows_with o e above = record {
  told = λ x has. cond_both (is_told o) (e ∷ above.told) above.told (λ (l : List Entry). Contains l x) (λ is. has_behind e above.told x has)
      (λ isnt. has);
  versions = λ t has. has_behind e.stamp above.versions t has;
  needed = λ t has. Contains-append_right (needs o e) above.needed t has;
}

-- the sweep found the entry effective
pub record IsSwept (operations : ℕ → Option Operation) (effect : Effect) (x : Entry) : Type 0 where
  pub version : Contains effect.versions x.stamp
  pub reads : x.reader ≡ true → Contains effect.needed x.stamp
  pub base : (b : Stamp) → x.reader ≡ false → base_of (operations x.operation) ≡ Some b → Contains effect.needed b
  pub told : is_told (operations x.operation) ≡ true → Contains effect.told x

swept_grows : (operations : ℕ → Option Operation) (above later : Effect) (x : Entry) → Grows above later → IsSwept operations above x
    → IsSwept operations later x
swept_grows operations above later x grows swept = record {
  version = grows.versions x.stamp swept.version;
  reads = λ is. grows.needed x.stamp (swept.reads is);
  base = λ b maker is. grows.needed b (swept.base b maker is);
  told = λ is. grows.told x (swept.told is);
}

swept_first : (operations : ℕ → Option Operation) (e : Entry) (above : Effect)
    → IsSwept operations (with_effective (operations e.operation) e above) e
swept_first operations e above =
    let o : Option Operation = operations e.operation in
    record {
      version = has_front e.stamp above.versions;
      reads = λ is.
          Contains-append_left (needs o e) above.needed e.stamp
          (subst (λ (r : Bool). Contains (cond r (e.stamp ∷ []) (option_to_list (base_of o))) e.stamp) (sym is) (has_front e.stamp []));
      base = λ b maker is.
          Contains-append_left (needs o e) above.needed b
          (subst (λ (r : Bool). Contains (cond r (e.stamp ∷ []) (option_to_list (base_of o))) b) (sym maker)
          (subst (λ (z : Option Stamp). Contains (option_to_list z) b) (sym is) (has_front b [])));
      told = λ is. subst (λ (t : Bool). Contains (cond t (e ∷ above.told) above.told) e) (sym is) (has_front e above.told);
    }

module _ (operations : ℕ → Option Operation) where
  abbrev effect : List Entry → Effect
  effect entries = effect_of operations entries

  -- what holds of one more entry's effect, where it is effective, and where it is not
  first_cases : (P : Effect → Type 0) (e : Entry) (entries : List Entry)
      → (is_effective (operations e.operation) e (effect entries) ≡ true → P (with_effective (operations e.operation) e (effect entries)))
      → (is_effective (operations e.operation) e (effect entries) ≡ false → P (effect entries)) → P (effect (e ∷ entries))
  first_cases P e entries is isnt =
      cond_both (is_effective (operations e.operation) e (effect entries)) (with_effective (operations e.operation) e (effect entries))
      (effect entries) P is isnt

  -- an entry that is effective before others is swept
  effective_first : (e : Entry) (entries : List Entry) → is_effective (operations e.operation) e (effect entries) ≡ true
      → IsSwept operations (effect (e ∷ entries)) e
  effective_first e entries is =
      first_cases (λ (z : Effect). IsSwept operations z e) e entries (λ same. swept_first operations e (effect entries))
      (λ isnt. absurd (both_ways (is_effective (operations e.operation) e (effect entries)) isnt is))

  -- and what was swept stays so
  swept_behind : (e : Entry) (entries : List Entry) (x : Entry) → IsSwept operations (effect entries) x → IsSwept operations (effect (e ∷ entries)) x
  swept_behind e entries x swept =
      first_cases (λ (z : Effect). IsSwept operations z x) e entries
      (λ is. swept_grows operations (effect entries) (with_effective (operations e.operation) e (effect entries)) x
      (grows_with (operations e.operation) e (effect entries)) swept)
      (λ isnt. swept)

  -- the entry of an answered operation is effective
  pub answered_swept : (entries : List Entry) (x : Entry) → Contains entries x → was_answered (operations x.operation) ≡ true
      → IsSwept operations (effect_of operations entries) x
  answered_swept [] x has answered = absurd (has_none x has)
  answered_swept (e ∷ entries) x has answered = ⊎_elim
      (λ (here : e ≡ x).
      let first : was_answered (operations e.operation) ≡ true = subst (λ (y : Entry). was_answered (operations y.operation) ≡ true)
      (sym here) answered in
      subst (λ (y : Entry). IsSwept operations (effect (e ∷ entries)) y) here
      (effective_first e entries (or_left (was_answered (operations e.operation)) _ first)))
      (λ (rest : Contains entries x). swept_behind e entries x (answered_swept entries x rest answered))
      (has_cases e entries x has)

  -- a maker's base is below its version
  abbrev pub IsAboveBase : Entry → Type 0
  IsAboveBase e = (b : Stamp) → e.reader ≡ false → base_of (operations e.operation) ≡ Some b → stamp_below b e.stamp ≡ true

  -- no maker of a version stands after an entry that needs it
  needs_before : (e : Entry) (entries : List Entry) → InOrder (e ∷ entries) → IsAboveBase e → (u : Stamp)
      → Contains (needs (operations e.operation) e) u
      → (x : Entry) → Contains (e ∷ entries) x → x.reader ≡ false → x.stamp ≡ u → ⊥
  needs_before e entries order above u need x has maker stamp = ⊎_elim
      (λ (reads : (e.reader ≡ true) × (e.stamp ≡ u)). ⊎_elim
      (λ (here : e ≡ x). both_ways e.reader (ap (λ (y : Entry). y.reader) here ∙ maker) reads.0)
      (λ (rest : Contains entries x). (after_entry e x (after x rest)).1 reads.0 maker (reads.1 ∙ sym stamp))
      (has_cases e entries x has))
      (λ (made : (e.reader ≡ false) × (base_of (operations e.operation) ≡ Some u)).
      let below : stamp_below u e.stamp ≡ true = above u made.0 made.1 in
      ⊎_elim
      (λ (here : e ≡ x).
      both_ways (stamp_below e.stamp e.stamp) (stamp_below_irrefl e.stamp)
      (subst (λ (t : Stamp). stamp_below t e.stamp ≡ true) (sym (ap (λ (y : Entry). y.stamp) here ∙ stamp)) below))
      (λ (rest : Contains entries x).
      both_ways (stamp_below x.stamp e.stamp) (after_entry e x (after x rest)).0
      (subst (λ (t : Stamp). stamp_below t e.stamp ≡ true) (sym stamp) below))
      (has_cases e entries x has))
      (needs_cases e.reader e.stamp (base_of (operations e.operation)) u need)
    where
      after : (y : Entry) → Contains entries y → entry_below y e ≡ false
      after y there = All-contains (λ (z : Entry). entry_below z e ≡ false) entries y
          (AllPairs-head (λ (a b : Entry). entry_below b a ≡ false) e entries order) there

  -- an entry of a version that those behind need is effective, where such an entry among them is
  needed_first : (e : Entry) (entries : List Entry) (u : Stamp) (x : Entry) → Contains (e ∷ entries) x → x.stamp ≡ u
      → Contains (effect entries).needed u
      → (Contains entries x → IsSwept operations (effect entries) x) → IsSwept operations (effect (e ∷ entries)) x
  needed_first e entries u x has stamp need rest = ⊎_elim
      (λ (here : e ≡ x).
      let mine : Contains (effect entries).needed e.stamp
      = subst (λ (t : Stamp). Contains (effect entries).needed t) (sym (ap (λ (y : Entry). y.stamp) here ∙ stamp)) need in
      subst (λ (y : Entry). IsSwept operations (effect (e ∷ entries)) y) here
      (effective_first e entries (or_right (was_answered (operations e.operation)) _ (has_among e.stamp (effect entries).needed mine))))
      (λ (behind : Contains entries x). swept_behind e entries x (rest behind))
      (has_cases e entries x has)

  -- the maker of a version that is needed is effective
  pub needed_swept : (entries : List Entry) → InOrder entries → All IsAboveBase entries → (u : Stamp)
      → Contains (effect_of operations entries).needed u
      → (x : Entry) → Contains entries x → x.reader ≡ false → x.stamp ≡ u → IsSwept operations (effect_of operations entries) x
  needed_swept [] order above u need x has maker stamp = absurd (has_none x has)
  needed_swept (e ∷ entries) order above u need x has maker stamp =
      let by : Contains (effect entries).needed u → IsSwept operations (effect (e ∷ entries)) x =
      λ old. needed_first e entries u x has stamp old
      (λ behind. needed_swept entries (AllPairs-tail (λ (a b : Entry). entry_below b a ≡ false) e entries order)
      (All-tail IsAboveBase e entries above) u old x
      behind maker stamp) in
      first_cases (λ (z : Effect). Contains z.needed u → IsSwept operations (effect (e ∷ entries)) x) e entries
      (λ is has_need. ⊎_elim
      (λ (new : Contains (needs (operations e.operation) e) u).
      absurd (needs_before e entries order (All-head IsAboveBase e entries above) u new x has maker stamp))
      (λ (old : Contains (effect entries).needed u). by old)
      (Contains-append_cases (needs (operations e.operation) e) (effect entries).needed u has_need))
      (λ isnt old. by old) need

  -- a version that was found effective is needed, or a maker of it is
  record SweptMaker (entries : List Entry) (found : Effect) (t : Stamp) : Type 0 where
    entry : Entry
    stands : Contains entries entry
    maker : entry.reader ≡ false
    stamp : entry.stamp ≡ t
    swept : IsSwept operations found entry

  -- a version is needed, or a maker of it is effective
  abbrev IsHeld : List Entry → Effect → Stamp → Type 0
  IsHeld entries found t = Contains found.needed t ⊎ SweptMaker entries found t

  held_first : (e : Entry) (entries : List Entry) → IsHeld (e ∷ entries) (with_effective (operations e.operation) e (effect entries)) e.stamp
  held_first e entries =
      let swept = swept_first operations e (effect entries) in
      ⊎_elim
      (λ (reads : e.reader ≡ true). inl (swept.reads reads))
      (λ (maker : e.reader ≡ false). inr (record { entry = e; stands = has_front e entries; maker = maker; stamp = refl; swept = swept }))
      (cases_Bool e.reader)

  held_behind : (e : Entry) (entries : List Entry) (found later : Effect) (t : Stamp) → Grows found later → IsHeld entries found t
      → IsHeld (e ∷ entries) later t
  held_behind e entries found later t grows (inl need) = inl (grows.needed t need)
  held_behind e entries found later t grows (inr made) =
      inr (record {
        entry = made.entry;
        stands = has_behind e entries made.entry made.stands;
        maker = made.maker;
        stamp = made.stamp;
        swept = swept_grows operations found later made.entry grows made.swept;
      })

  version_held : (entries : List Entry) (t : Stamp) → Contains (effect entries).versions t → IsHeld entries (effect entries) t
  version_held [] t has = absurd (has_none t has)
  version_held (e ∷ entries) t has =
      let rest : Contains (effect entries).versions t → IsHeld entries (effect entries) t = version_held entries t in
      first_cases (λ (z : Effect). Contains z.versions t → IsHeld (e ∷ entries) z t) e entries
      (λ is found. ⊎_elim
      (λ (here : e.stamp ≡ t).
      subst (λ (u : Stamp). IsHeld (e ∷ entries) (with_effective (operations e.operation) e (effect entries)) u) here (held_first e entries))
      (λ (behind : Contains (effect entries).versions t).
      held_behind e entries (effect entries) (with_effective (operations e.operation) e (effect entries)) t
      (grows_with (operations e.operation) e (effect entries))
      (rest behind))
      (has_cases e.stamp (effect entries).versions t found))
      (λ isnt found.
      held_behind e entries (effect entries) (effect entries) t (record { told = λ x h. h; versions = λ x h. h; needed = λ x h. h }) (rest found))
      has

  -- a maker of an effective version is effective, where the version has one
  pub version_swept : (entries : List Entry) → InOrder entries → All IsAboveBase entries → (t : Stamp)
      → Contains (effect_of operations entries).versions t
      → (m : Entry) → Contains entries m → m.reader ≡ false → m.stamp ≡ t
      → (r : Entry) × Contains entries r × (r.reader ≡ false) × (r.stamp ≡ t) × IsSwept operations (effect_of operations entries) r
  version_swept entries order above t has m stands maker stamp = ⊎_elim
      (λ (need : Contains (effect entries).needed t). (m, stands, maker, stamp, needed_swept entries order above t need m stands maker stamp))
      (λ (made : SweptMaker entries (effect entries) t). (made.entry, made.stands, made.maker, made.stamp, made.swept))
      (version_held entries t has)

  -- what holds of all entries holds of those that are told
  pub told_all : (P : Entry → Type 0) (entries : List Entry) → All P entries → All P (effect_of operations entries).told
  told_all P [] all = All-nil P
  told_all P (e ∷ entries) all =
      let rest : All P (effect entries).told = told_all P entries (All-tail P e entries all) in
      first_cases (λ (z : Effect). All P z.told) e entries
      (λ is. cond_both (is_told (operations e.operation)) (e ∷ (effect entries).told) (effect entries).told (λ (l : List Entry). All P l)
      (λ told. All-cons P e (effect entries).told (All-head P e entries all) rest) (λ untold. rest))
      (λ isnt. rest)

  -- and so does what holds of each and each later one
  pub told_pairs : (R : Entry → Entry → Type 0) (entries : List Entry) → AllPairs R entries → AllPairs R (effect_of operations entries).told
  told_pairs R [] pairs = pairs
  told_pairs R (e ∷ entries) pairs =
      let rest : AllPairs R (effect entries).told = told_pairs R entries (AllPairs-tail R e entries pairs) in
      first_cases (λ (z : Effect). AllPairs R z.told) e entries
      (λ is. cond_both (is_told (operations e.operation)) (e ∷ (effect entries).told) (effect entries).told (λ (l : List Entry). AllPairs R l)
      (λ told. AllPairs-cons R e (effect entries).told (told_all (R e) entries (AllPairs-head R e entries pairs)) rest) (λ untold. rest))
      (λ isnt. rest)

  -- what is told is an operation's that is told
  pub told_told : (entries : List Entry) → All (λ e. is_told (operations e.operation) ≡ true) (effect_of operations entries).told
  told_told [] = All-nil (λ (e : Entry). is_told (operations e.operation) ≡ true)
  told_told (e ∷ entries) =
      first_cases (λ (z : Effect). All (λ (x : Entry). is_told (operations x.operation) ≡ true) z.told) e entries
      (λ is. cond_both (is_told (operations e.operation)) (e ∷ (effect entries).told) (effect entries).told
      (λ (l : List Entry). All (λ (x : Entry). is_told (operations x.operation) ≡ true) l)
      (λ told. All-cons (λ (x : Entry). is_told (operations x.operation) ≡ true) e (effect entries).told told (told_told entries))
      (λ untold. told_told entries))
      (λ isnt. told_told entries)

  -- and its version is effective
  pub told_versions : (entries : List Entry) → All (λ e. Contains (effect_of operations entries).versions e.stamp) (effect_of operations entries).told
  told_versions [] = All-nil (λ (e : Entry). Contains [] e.stamp)
  told_versions (e ∷ entries) =
      first_cases (λ (z : Effect). All (λ (x : Entry). Contains z.versions x.stamp) z.told) e entries
      (λ is.
      let versions : List Stamp = e.stamp ∷ (effect entries).versions in
      let rest : All (λ (x : Entry). Contains versions x.stamp) (effect entries).told
      = All-weaker (λ (x : Entry). Contains (effect entries).versions x.stamp) (λ (x : Entry). Contains versions x.stamp)
      (λ x has. has_behind e.stamp (effect entries).versions x.stamp has) (effect entries).told (told_versions entries) in
      cond_both (is_told (operations e.operation)) (e ∷ (effect entries).told) (effect entries).told
      (λ (l : List Entry). All (λ (x : Entry). Contains versions x.stamp) l)
      (λ told. All-cons (λ (x : Entry). Contains versions x.stamp) e (effect entries).told (has_front e.stamp (effect entries).versions) rest)
      (λ untold. rest))
      (λ isnt. told_versions entries)

  -- what holds of the stamps of all entries holds of the effective versions
  pub versions_all : (P : Stamp → Type 0) (entries : List Entry) → All (λ e. P e.stamp) entries → All P (effect_of operations entries).versions
  versions_all P [] all = All-nil P
  versions_all P (e ∷ entries) all =
      let rest : All P (effect entries).versions = versions_all P entries (All-tail (λ (x : Entry). P x.stamp) e entries all) in
      first_cases (λ (z : Effect). All P z.versions) e entries
      (λ is. All-cons P e.stamp (effect entries).versions (All-head (λ (x : Entry). P x.stamp) e entries all) rest) (λ isnt. rest)

  -- the effective versions never fall
  pub versions_order : (entries : List Entry) → InOrder entries → AllPairs (λ a b. stamp_below b a ≡ false) (effect_of operations entries).versions
  versions_order [] order = λ i j d lt le. absurd (omega arith)
  versions_order (e ∷ entries) order =
      let InR : Entry → Entry → Type 0 = λ a b. entry_below b a ≡ false in
      let rest : AllPairs (λ (a b : Stamp). stamp_below b a ≡ false) (effect entries).versions = versions_order entries
      (AllPairs-tail InR e entries order) in
      first_cases (λ (z : Effect). AllPairs (λ (a b : Stamp). stamp_below b a ≡ false) z.versions) e entries
      (λ is. AllPairs-cons (λ (a b : Stamp). stamp_below b a ≡ false) e.stamp (effect entries).versions
      (versions_all (λ (v : Stamp). stamp_below v e.stamp ≡ false) entries
      (All-weaker (λ (x : Entry). entry_below x e ≡ false) (λ (x : Entry). stamp_below x.stamp e.stamp ≡ false)
      (λ x after. (after_entry e x after).0) entries
      (AllPairs-head InR e entries order)))
      rest)
      (λ isnt. rest)

  -- what the sweep finds effective is effective
  pub all_effective : (Stands : Stamp → Type 0) (base : Stamp → Option Stamp) (entries : List Entry)
      → All (λ e. was_answered (operations e.operation) ≡ true → Stands e.stamp) entries
      → All (λ e. e.reader ≡ false → base e.stamp ≡ base_of (operations e.operation)) entries
      → All (λ t. IsEffective Stands base t) (effect_of operations entries).versions × All (λ t. IsEffective Stands base t)
      (effect_of operations entries).needed
  all_effective Stands base [] answered based = (
    All-nil (λ (t : Stamp). IsEffective Stands base t),
    All-nil
        (λ (t : Stamp). IsEffective Stands base t),
  )
  all_effective Stands base (e ∷ entries) answered based =
      let IsE : Stamp → Type 0 = λ t. IsEffective Stands base t in
      let above = all_effective Stands base entries
      (All-tail (λ (x : Entry). was_answered (operations x.operation) ≡ true → Stands x.stamp) e entries answered)
      (All-tail (λ (x : Entry). x.reader ≡ false → base x.stamp ≡ base_of (operations x.operation)) e entries based) in
      first_cases (λ (z : Effect). All IsE z.versions × All IsE z.needed) e entries
      (λ is.
      let own : IsE e.stamp = ⊎_elim
      (λ (stands : was_answered (operations e.operation) ≡ true).
      Standing e.stamp (All-head (λ (x : Entry). was_answered (operations x.operation) ≡ true → Stands x.stamp) e entries answered stands))
      (λ (need : is_among e.stamp (effect entries).needed ≡ true).
      All-contains IsE (effect entries).needed e.stamp above.1 (among_has e.stamp (effect entries).needed need))
      (or_cases _ _ is) in (
        All-cons IsE e.stamp (effect entries).versions own above.0,
        All-append IsE (needs (operations e.operation) e) (effect entries).needed
            (needs_all IsE e.reader e.stamp (base_of (operations e.operation)) (λ reads. own)
            (λ u maker on. BaseOf e.stamp u own
            (All-head (λ (x : Entry). x.reader ≡ false → base x.stamp ≡ base_of (operations x.operation)) e entries based maker ∙ on)))
            above.1,
      ))
      (λ isnt. above)
