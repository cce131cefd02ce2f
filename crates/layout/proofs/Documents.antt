-- Texts as TOML documents.
use Rattle.std.proofs.Common.{◌≡◌, ℕ, Bool, true, false, cond, codes, pos, List, Some, None, Ok, refl, ap, ◌∙◌}
use Rattle.std.specs.Str.{IsUtf8, is_utf8, chars}
use lib.Utf8.{encode}
use Rattle.std.proofs.lemmas.Str.{IsUtf8-from_is_utf8, is_utf8-from_IsUtf8}
use Rattle.quorum.specs.Memberships.{is_membership}
use Rattle.toml.specs.Data.{Members, no_members, member, no_items, item, integer, array, table}
use Rattle.toml.specs.Parse.{parse_document}
use Rattle.toml.proofs.OnLiterals.{toml_on_literals}
use Rattle.layout.specs.declared.texts.TheConstants.{THREE_COPIES}
use Rattle.layout.specs.Texts.{document_of, layout_or, layout_of, three_copies}
use Rattle.layout.specs.Checks.{layout_in}

-- the table of a document
pub document_of-read : (text : List ℕ) (document : Members) → IsUtf8 text → parse_document text ≡ Some document → document_of text ≡ Some document
document_of-read text document utf8 is = rw (is_utf8-from_IsUtf8 text utf8) is

-- a text that is none
pub document_of-none : (text : List ℕ) → (IsUtf8 text → parse_document text ≡ None) → document_of text ≡ None
document_of-none text none = by_bytes (is_utf8 text) refl
  where
    by_bytes : (b : Bool) → is_utf8 text ≡ b → cond b (parse_document text) None ≡ None
    by_bytes true is = none (IsUtf8-from_is_utf8 text is)
    by_bytes false is = refl

-- the table of three copies
three_copies-table : Members
three_copies-table =
    member (codes "block") (integer (pos 1)) (member (codes "bricks") (integer (pos 3))
    (member (codes "group") (array (item (table
    (member (codes "m") (integer (pos 1)) (member (codes "members") (array (item (integer (pos 0)) (item (integer (pos 1)) (item (integer (pos 2)) no_items))))
    (member (codes "stripes") (integer (pos 4)) no_members)))) no_items))
    (member (codes "records") (integer (pos 100)) no_members)))

three_copies-utf8 : is_utf8 THREE_COPIES.now ≡ true
unfolding is_utf8 chars encode
three_copies-utf8 = refl

three_copies-document : parse_document THREE_COPIES.now ≡ Some three_copies-table
unfolding toml_on_literals three_copies-table
three_copies-document = refl

three_copies-checks : layout_in three_copies-table ≡ Ok three_copies
unfolding three_copies-table is_membership
three_copies-checks = refl

-- what the text of three copies says
pub three_copies-read : layout_of THREE_COPIES.now ≡ Ok three_copies
three_copies-read =
    ap layout_or (document_of-read THREE_COPIES.now three_copies-table (IsUtf8-from_is_utf8 THREE_COPIES.now three_copies-utf8) three_copies-document)
    ∙ three_copies-checks
