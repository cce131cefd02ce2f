-- Reading a list one element after another.
use Rattle.std.proofs.Common.{◌≡◌, ◌≢◌, ℕ, ◌+◌, ◌<◌, ◌≤◌, List, [], ◌∷◌, ◌++◌, length, get_or, drop, Option, Some, None, option_map, option_and_then, Result, Ok, Err, map, refl, ap, sym, subst, ◌∙◌, append_assoc, drop_of_length-le}
use Rattle.std.proofs.lemmas.List.{at_drop_more, flat_map_more}
use Rattle.std.specs.BTreeMap.{BTreeMap}
use Rattle.fab_base.specs.Layouts.{Group, Volume}
use Rattle.std.specs.Prelude.{IfOk, IfErr}
use Rattle.layout.specs.declared.faults.LayoutFault.{LayoutFault}
use Rattle.layout.specs.declared.faults.LayoutFault.TheVariants.{NoMemory}
use Rattle.toml.specs.Data.{Members}
use Rattle.layout.specs.Checks.{◌>>=◌, group_in, groups_in, volume_in, volumes_in}
use Rattle.layout.specs.Runs.{HasRuns}
use Rattle.layout.specs.Segments.{segments_of}

-- what was read so far, with what the rest gives
abbrev pub with_rest : {A : Type 0} → List A → Option (List A) → Option (List A)
with_rest done rest = option_map (λ more. done ++ more) rest

-- what one element gives, before what the rest gives
abbrev pub first_of : {A : Type 0} → Option A → Option (List A) → Option (List A)
first_of first rest = option_and_then (λ a. option_map (λ more. a ∷ more) rest) first

-- one more element read is the last of those so far
first_read : {A : Type 0} (done : List A) (a : A) (rest : Option (List A)) → with_rest done (first_of (Some a) rest) ≡ with_rest (done ++ (a ∷ [])) rest
first_read done a None = refl
first_read done a (Some more) = rw append_assoc

-- a reading of a list by elements goes on past an element that gives something
pub one_read : {X A : Type 0} (read : List X → Option (List A)) (read_one : X → Option A)
    → ((x : X) (xs : List X) → read (x ∷ xs) ≡ first_of (read_one x) (read xs))
    → (xs : List X) (i : ℕ) (d : X) (done : List A) (a : A) → i < length xs → read_one (get_or xs i d) ≡ Some a
    → with_rest done (read (drop i xs)) ≡ with_rest (done ++ (a ∷ [])) (read (drop (i + 1) xs))
one_read read read_one step xs i d done a below gives =
    ap (with_rest done) (at_drop_more read xs i d below ∙ step (get_or xs i d) (drop (i + 1) xs)
    ∙ ap (λ (first : Option _). first_of first (read (drop (i + 1) xs))) gives)
    ∙ first_read done a (read (drop (i + 1) xs))

-- a reading of a list by elements gives nothing where one of them does
pub none_read : {X A : Type 0} (read : List X → Option (List A)) (read_one : X → Option A)
    → ((x : X) (xs : List X) → read (x ∷ xs) ≡ first_of (read_one x) (read xs))
    → (xs : List X) (i : ℕ) (d : X) (done : List A) → i < length xs → read_one (get_or xs i d) ≡ None
    → with_rest done (read (drop i xs)) ≡ None
none_read read read_one step xs i d done below gives =
    ap (with_rest done) (at_drop_more read xs i d below ∙ step (get_or xs i d) (drop (i + 1) xs)
    ∙ ap (λ (first : Option _). first_of first (read (drop (i + 1) xs))) gives)

-- the groups so far, with those of the rest
abbrev pub after_groups : List Group → Result (List Group) LayoutFault → Result (List Group) LayoutFault
after_groups done rest = rest >>= λ more. Ok (done ++ more)

-- one more group read is the last of those so far
last_group : (done : List Group) (group : Group) (rest : Result (List Group) LayoutFault)
    → after_groups done (rest >>= λ groups. Ok (group ∷ groups)) ≡ after_groups (done ++ (group ∷ [])) rest
last_group done group (Ok more) = rw append_assoc
last_group done group (Err fault) = refl

-- the reading of the groups goes on past a table that says one
pub group_read : {X : Type 0} (view : X → Members) (block bricks : ℕ) (tables : List X) (i : ℕ) (d : X) (done : List Group) (group : Group)
    → i < length tables → group_in block bricks (view (get_or tables i d)) ≡ Ok group
    → after_groups done (groups_in block bricks (map view (drop i tables)))
    ≡ after_groups (done ++ (group ∷ [])) (groups_in block bricks (map view (drop (i + 1) tables)))
group_read {X} view block bricks tables i d done group below gives =
    let rest : Result (List Group) LayoutFault = groups_in block bricks (map view (drop (i + 1) tables)) in
    ap (after_groups done) (at_drop_more (λ (xs : List X). groups_in block bricks (map view xs)) tables i d below
    ∙ ap (λ (first : Result Group LayoutFault). first >>= λ g. rest >>= λ groups. Ok (g ∷ groups)) gives)
    ∙ last_group done group rest

-- the reading of the volumes goes on past a table that says one
pub volume_read : {X : Type 0} (view : X → Members) (groups : List Group) (before : List Volume) (tables : List X) (i : ℕ) (d : X) (volume : Volume)
    (after : List Volume) → after ≡ before ++ (volume ∷ []) → i < length tables → volume_in groups before (view (get_or tables i d)) ≡ Ok volume
    → volumes_in groups before (map view (drop i tables)) ≡ volumes_in groups after (map view (drop (i + 1) tables))
volume_read {X} view groups before tables i d volume after after_is below gives =
    at_drop_more (λ (xs : List X). volumes_in groups before (map view xs)) tables i d below
    ∙ ap (λ (first : Result Volume LayoutFault). first >>= λ v. volumes_in groups (before ++ (v ∷ [])) (map view (drop (i + 1) tables))) gives
    ∙ ap (λ (volumes : List Volume). volumes_in groups volumes (map view (drop (i + 1) tables))) (sym after_is)

-- and is refused by one that says none
pub volume_refused : {X : Type 0} (view : X → Members) (groups : List Group) (before : List Volume) (tables : List X) (i : ℕ) (d : X) (fault : LayoutFault)
    → i < length tables → volume_in groups before (view (get_or tables i d)) ≡ Err fault → volumes_in groups before (map view (drop i tables)) ≡ Err fault
volume_refused {X} view groups before tables i d fault below gives =
    at_drop_more (λ (xs : List X). volumes_in groups before (map view xs)) tables i d below
    ∙ ap (λ (first : Result Volume LayoutFault). first >>= λ v. volumes_in groups (before ++ (v ∷ [])) (map view (drop (i + 1) tables))) gives

-- no table is left
pub volumes_read : {X : Type 0} (view : X → Members) (groups : List Group) (before : List Volume) (tables : List X) (i : ℕ) → length tables ≤ i
    → volumes_in groups before (map view (drop i tables)) ≡ Ok before
volumes_read {X} view groups before tables i all =
    ap (λ (xs : List X). volumes_in groups before (map view xs)) (drop_of_length-le tables all)

-- a fault that was met is the one that is answered
pub passed_on : {T S : Type 0} (wanted : Result S LayoutFault) (r : Result T LayoutFault) (met said : LayoutFault) → r ≡ Err said → said ≡ met
    → (met ≢ NoMemory → wanted ≡ Err met) → IfErr r (λ fault. fault ≢ NoMemory → wanted ≡ Err fault)
passed_on wanted r met said is same h = subst (λ r. IfErr r (λ fault. fault ≢ NoMemory → wanted ≡ Err fault)) (sym (is ∙ ap Err same)) h

pub not_ok : {T : Type 0} (P : T → Type 0) (r : Result T LayoutFault) (said : LayoutFault) → r ≡ Err said → IfOk r P
not_ok P r said is = subst (λ r. IfOk r P) (sym is) tt

-- the runs of some volumes and of one more are those of all of them
pub runs_more : (ends : BTreeMap ℕ ℕ) (before : List Volume) (volume : Volume) (after : List Volume) → after ≡ before ++ (volume ∷ [])
    → HasRuns ends (segments_of before ++ volume.segments) → HasRuns ends (segments_of after)
runs_more ends before volume after after_is has =
    subst (λ (volumes : List Volume). HasRuns ends (segments_of volumes)) (sym after_is)
    (subst (HasRuns ends) (flat_map_more (λ (v : Volume). v.segments) [] before volume) has)
