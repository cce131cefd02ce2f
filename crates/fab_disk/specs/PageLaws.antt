-- How many bytes pages have.
use Rattle.std.proofs.Common.{◌≡◌, ℕ, zero, suc, ◌+◌, ◌*◌, ◌≤◌, List, [], ◌∷◌, ◌++◌, length, take, refl, ap, arith}
use Rattle.std.proofs.lemmas.List.{length-append, length-replicate, length-take}
use Rattle.rand_pcg.specs.Lcg.{Lcg}
use Rattle.rand_pcg.specs.Pcg.{pcg32}
use Rattle.fab_disk.specs.Draws.{drawn}
use Rattle.fab_disk.specs.declared.pages.Page.{Page}
use Rattle.fab_disk.specs.declared.pages.Page.TheVariants.{Zero, Drawn, Held}
use Rattle.fab_disk.specs.Pages.{page_bytes, spread}

pub length-drawn : (n : ℕ) (random : Lcg) → length (drawn n random) ≡ n
unfolding drawn
length-drawn zero random = refl
length-drawn (suc n) random = ap suc (length-drawn n (pcg32 random).1)

pub length-page : (page : Page) → length (page_bytes page) ≡ 4096
length-page Zero = length-replicate {A = ℕ} 4096 0
length-page (Drawn random) = length-drawn 4096 random
length-page (Held sheet) = sheet.whole

pub length-spread : (pages : List Page) → length (spread pages) ≡ 4096 * length pages
length-spread [] = refl
length-spread (page ∷ pages) = omega (arith, length-append (page_bytes page) (spread pages), length-page page, length-spread pages)

-- how long the content is
pub length-shown : (front : List ℕ) (pages : List Page) (len : ℕ) → len ≤ length front + 4096 * length pages
    → length (take len (front ++ spread pages)) ≡ len
length-shown front pages len within = omega (arith, length-take len (front ++ spread pages), length-append front (spread pages), length-spread pages)
