-- Bytes in memory, of which only the pages that were written take room.
use Rattle.std.specs.Prelude.{ℕ, Bool, true, false, List, [], ◌∷◌, ◌++◌, replicate, get_or}
use Rattle.fab_disk.specs.Draws.{drawn}
use Rattle.fab_disk.specs.declared.pages.Page.{Page}
use Rattle.fab_disk.specs.declared.pages.Page.TheVariants.{Zero, Drawn, Held}

-- the bytes of a page
abbrev pub page_bytes : Page → List ℕ
page_bytes Zero = replicate 4096 0
page_bytes (Drawn random) = drawn 4096 random
page_bytes (Held sheet) = sheet.bytes.items

-- it has memory of its own
abbrev pub is_held : Page → Bool
is_held Zero = false
is_held (Drawn random) = false
is_held (Held sheet) = true

-- the bytes of pages, one after the other
abbrev pub spread : List Page → List ℕ
spread [] = []
spread (page ∷ pages) = page_bytes page ++ spread pages

-- page k has memory of its own
abbrev pub held_at : List Page → ℕ → Bool
held_at pages k = is_held (get_or pages k Zero)
