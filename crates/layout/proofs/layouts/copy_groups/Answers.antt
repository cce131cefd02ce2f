-- One more group was copied.
use Rattle.std.proofs.Common.{◌∷◌, [], ◌++◌, take, sym, ap, ◌∙◌, rules}
use Rattle.std.proofs.lemmas.List.{take_more}
use Rattle.layout.proofs.layouts.copy_groups.Goals as goal

pub loop-group-preserved : goal.loop-group-preserved
loop-group-preserved c =
    let groups = c.args.groups.now in
    let i = c.loop-group.group-index in
    let group = c.group-item.result in
    c.in_ok-push.ensures.items
    ∙ ap (λ made. made ++ (c.copy.result ∷ [])) c.loop-group.invariant
    ∙ ap (λ last. take i groups ++ (last ∷ [])) (c.copy.ensures ∙ c.group-item.is)
    ∙ sym (take_more groups i group (search rules))
