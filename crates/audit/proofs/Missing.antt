-- The first stripe of an answered operation that did not happen.
use Rattle.std.proofs.Common.{◌≡◌, ℕ, zero, suc, ◌+◌, ◌<◌, Bool, true, false, cond, List, [], ◌∷◌, length, get_or, drop, ◌⊎◌, inl, inr, ⊎_elim, Option, Some, None, refl, sym, ap, ◌∙◌, subst, arith}
use Rattle.std.specs.Prelude.{slice_get}
use Rattle.std.proofs.lemmas.Bool.Decides.{nat_tests}
use Rattle.std.proofs.lemmas.List.{at_drop_more}
use Rattle.transcript.specs.declared.claims.ParsedMark.{ParsedMark}
use Rattle.audit.specs.declared.operations.Operation.{Operation}
use Rattle.audit.specs.declared.sweeps.StripeName.{StripeName}
use Rattle.audit.specs.Sweeps.{is_missing, name_before, earlier, with_missing, first_missing}
use Rattle.audit.proofs.Lists.{same_some}

-- one operation more was looked at
pub missing_more : (claims : List ParsedMark) (operations : List Operation) (happened : List Bool) (i : ℕ) (o : Operation) (b : Bool) (first : Option StripeName)
    → i < length operations → i < length happened
    → first_missing claims (drop (i + 1) operations) (drop (i + 1) happened) (with_missing claims (get_or operations i o) (get_or happened i b) first)
    ≡ first_missing claims (drop i operations) (drop i happened) first
missing_more claims operations happened i o b first lt room =
    sym (ap (λ (l : List Operation). first_missing claims l (drop i happened) first) (at_drop_more (λ (l : List Operation). l) operations i o lt)
    ∙ ap (λ (l : List Bool). first_missing claims (get_or operations i o ∷ drop (i + 1) operations) l first)
    (at_drop_more (λ (l : List Bool). l) happened i b room))

-- an operation of a place, and of a stripe, is missing
pub record Missing (claims : List ParsedMark) (operations : List Operation) (happened : List Bool) (g s : ℕ) : Type 0 where
  pub place : ℕ
  pub operation : Operation
  pub at : slice_get operations place ≡ Some operation
  pub group : operation.group ≡ g
  pub stripe : operation.stripe ≡ s
  pub is : is_missing claims operation (get_or happened place false) ≡ true

-- the first of a stripe, where there is one, and those of missing operations
pub record IsFirst (claims : List ParsedMark) (operations : List Operation) (happened : List Bool) (stop : Option StripeName) (name : StripeName) : Type 0 where
  pub among : (stop ≡ Some name) ⊎ Missing claims operations happened name.group name.stripe
  pub stop_not_before : (other : StripeName) → stop ≡ Some other → name_before other name ≡ false
  pub none_before : (g s : ℕ) → Missing claims operations happened g s → name_before (record { group = g; stripe = s }) name ≡ false

abbrev pub FirstMeans : List ParsedMark → List Operation → List Bool → Option StripeName → Option StripeName → Type 0
FirstMeans claims operations happened stop None = (stop ≡ None) × ((g s : ℕ) → Missing claims operations happened g s → ⊥)
FirstMeans claims operations happened stop (Some name) = IsFirst claims operations happened stop name

-- the order of stripes
not_itself : (a : StripeName) → name_before a a ≡ false
not_itself a = grind (arith, nat_tests)

pub before_later : (a b c : StripeName) → name_before a b ≡ true → name_before c b ≡ false → name_before a c ≡ true
before_later a b c lt later = grind (arith, nat_tests)

not_before_both : (a b c : StripeName) → name_before a b ≡ false → name_before b c ≡ false → name_before a c ≡ false
not_before_both a b c one two = grind (arith, nat_tests)

not_both : (a b : StripeName) → name_before a b ≡ true → name_before b a ≡ false
not_both a b lt = grind (arith, nat_tests)

-- the earlier of two is one of them, and neither is before it
pub record Picks (stop : Option StripeName) (name x : StripeName) : Type 0 where
  pub one : (x ≡ name) ⊎ (stop ≡ Some x)
  pub name_not_before : name_before name x ≡ false
  pub stop_not_before : (other : StripeName) → stop ≡ Some other → name_before other x ≡ false

pick_by : (first name : StripeName) (t : Bool) → name_before name first ≡ t
    → (x : StripeName) × (cond t (Some name) (Some first) ≡ Some x) × Picks (Some first) name x
pick_by first name true is = (
  name,
  refl,
  record {
    one = inl refl;
    name_not_before = not_itself name;
    stop_not_before = λ other same. subst (λ (o : StripeName). name_before o name ≡ false) (same_some first other same) (not_both name first is);
  },
)
pick_by first name false is = (
  first,
  refl,
  record {
    one = inr refl;
    name_not_before = is;
    stop_not_before = λ other same. subst (λ (o : StripeName). name_before o first ≡ false) (same_some first other same) (not_itself first);
  },
)

picks : (stop : Option StripeName) (name : StripeName) → (x : StripeName) × (earlier stop name ≡ Some x) × Picks stop name x
picks None name = (
  name,
  refl,
  record {
    one = inl refl;
    name_not_before = not_itself name;
    stop_not_before = λ other same. absurd (let never : None ≡ Some other = same in cc);
  },
)
picks (Some first) name = pick_by first name (name_before name first) refl

module _ (claims : List ParsedMark) (o : Operation) (b : Bool) (operations : List Operation) (happened : List Bool) where
  -- an operation that is missing behind the first, or is the first
  behind : (g s : ℕ) → Missing claims operations happened g s → Missing claims (o ∷ operations) (b ∷ happened) g s
  behind g s m = record { place = suc m.place; operation = m.operation; at = m.at; group = m.group; stripe = m.stripe; is = m.is }

  head : is_missing claims o b ≡ true → Missing claims (o ∷ operations) (b ∷ happened) o.group o.stripe
  head is = record { place = 0; operation = o; at = refl; group = refl; stripe = refl; is = is }

  -- where it stands
  where_at : (g s place : ℕ) (x : Operation) → slice_get (o ∷ operations) place ≡ Some x → x.group ≡ g → x.stripe ≡ s
      → is_missing claims x (get_or (b ∷ happened) place false) ≡ true
      → ((o.group ≡ g) × (o.stripe ≡ s) × (is_missing claims o b ≡ true)) ⊎ Missing claims operations happened g s
  where_at g s zero x at group stripe is =
      let same : o ≡ x = same_some o x at in
      inl (
        ap (λ (y : Operation). y.group) same ∙ group,
        ap (λ (y : Operation). y.stripe) same ∙ stripe,
        subst (λ (y : Operation). is_missing claims y b ≡ true) (sym same) is,
      )
  where_at g s (suc place) x at group stripe is = inr (record { place = place; operation = x; at = at; group = group; stripe = stripe; is = is })

  -- the first is not missing
  pass_none : (stop result : Option StripeName) → is_missing claims o b ≡ false → FirstMeans claims operations happened stop result
      → FirstMeans claims (o ∷ operations) (b ∷ happened) stop result
  pass_none stop None is means = (
    means.0,
    λ g s m. ⊎_elim
        (λ (here : (o.group ≡ g) × (o.stripe ≡ s) × (is_missing claims o b ≡ true)). let never : true ≡ false = sym here.2 ∙ is in cc)
        (λ (there : Missing claims operations happened g s). means.1 g s there)
        (where_at g s m.place m.operation m.at m.group m.stripe m.is),
  )
  pass_none stop (Some name) is means = record {
    among = ⊎_elim (λ (e : stop ≡ Some name). inl e) (λ (m : Missing claims operations happened name.group name.stripe). inr (behind name.group name.stripe m))
        means.among;
    stop_not_before = means.stop_not_before;
    none_before = λ g s m. ⊎_elim
        (λ (here : (o.group ≡ g) × (o.stripe ≡ s) × (is_missing claims o b ≡ true)). absurd (let never : true ≡ false = sym here.2 ∙ is in cc))
        (λ (there : Missing claims operations happened g s). means.none_before g s there)
        (where_at g s m.place m.operation m.at m.group m.stripe m.is);
  }

  -- the first is missing
  pass_one : (stop result : Option StripeName) (x : StripeName) → is_missing claims o b ≡ true → Picks stop (record { group = o.group; stripe = o.stripe }) x
      → FirstMeans claims operations happened (Some x) result → FirstMeans claims (o ∷ operations) (b ∷ happened) stop result
  pass_one stop None x is picked means = absurd (let never : Some x ≡ None = means.0 in cc)
  pass_one stop (Some name) x is picked means =
      let mine : StripeName = record { group = o.group; stripe = o.stripe } in
      let x_not : name_before x name ≡ false = means.stop_not_before x refl in
      record {
        among = ⊎_elim
            (λ (e : Some x ≡ Some name).
            let same : x ≡ name = same_some x name e in
            ⊎_elim
            (λ (own : x ≡ mine). inr (subst (λ (n : StripeName). Missing claims (o ∷ operations) (b ∷ happened) n.group n.stripe) (sym own ∙ same) (head is)))
            (λ (old : stop ≡ Some x). inl (old ∙ ap (λ (n : StripeName). Some n) same)) picked.one)
            (λ (m : Missing claims operations happened name.group name.stripe). inr (behind name.group name.stripe m)) means.among;
        stop_not_before = λ other e. not_before_both other x name (picked.stop_not_before other e) x_not;
        none_before = λ g s m. ⊎_elim
            (λ (here : (o.group ≡ g) × (o.stripe ≡ s) × (is_missing claims o b ≡ true)).
            subst (λ (k : ℕ). name_before (record { group = k; stripe = s }) name ≡ false) here.0
            (subst (λ (k : ℕ). name_before (record { group = o.group; stripe = k }) name ≡ false) here.1
            (not_before_both mine x name picked.name_not_before x_not)))
            (λ (there : Missing claims operations happened g s). means.none_before g s there)
            (where_at g s m.place m.operation m.at m.group m.stripe m.is);
      }

no_more : (claims : List ParsedMark) (happened : List Bool) (stop : Option StripeName) → FirstMeans claims [] happened stop stop
no_more claims happened None = (refl, λ g s m. let never : None ≡ Some m.operation = m.at in cc)
no_more claims happened (Some name) = record {
  among = inl refl;
  stop_not_before = λ other e. subst (λ (n : StripeName). name_before n name ≡ false) (same_some name other e) (not_itself name);
  none_before = λ g s m. absurd (let never : None ≡ Some m.operation = m.at in cc);
}

-- what is found means this
pub first_means : (claims : List ParsedMark) (operations : List Operation) (happened : List Bool) (stop : Option StripeName)
    → length happened ≡ length operations → FirstMeans claims operations happened stop (first_missing claims operations happened stop)
first_means claims [] happened stop room = no_more claims happened stop
first_means claims (o ∷ operations) [] stop room = absurd (omega arith)
first_means claims (o ∷ operations) (b ∷ happened) stop room =
    by_test (is_missing claims o b) refl
    (λ first. first_means claims operations happened first (let same : length happened ≡ length operations = omega arith in same))
  where
    by_test : (t : Bool) → is_missing claims o b ≡ t
        → ((first : Option StripeName) → FirstMeans claims operations happened first (first_missing claims operations happened first))
        → FirstMeans claims (o ∷ operations) (b ∷ happened) stop
        (first_missing claims operations happened (cond t (earlier stop (record { group = o.group; stripe = o.stripe })) stop))
    by_test true is rest =
        let picked = picks stop (record { group = o.group; stripe = o.stripe }) in
        subst (λ (f : Option StripeName). FirstMeans claims (o ∷ operations) (b ∷ happened) stop (first_missing claims operations happened f)) (sym picked.1)
        (pass_one claims o b operations happened stop (first_missing claims operations happened (Some picked.0)) picked.0 is picked.2 (rest (Some picked.0)))
    by_test false is rest = pass_none claims o b operations happened stop (first_missing claims operations happened stop) is (rest stop)
