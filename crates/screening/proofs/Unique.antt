-- A table lists one tree at most.
use Rattle.std.proofs.Common.{◌≡◌, ℕ, [], ◌∷◌, zero, suc, ◌≤◌, List, ◌++◌, length, Option, sym, refl, ap, ◌∙◌, arith}
use Rattle.std.proofs.lemmas.List.{same_from_push}
use Rattle.screening.specs.Trees.{Forest, bare, plant, size, post, spans_of, Lists, tree}
use Rattle.screening.proofs.Forests.{length-spans_of, length-post, apart, size_zero}
use Rattle.screening.proofs.Growth.{tree-scan}

-- equal lists, cut at the same place
pub parts_same : {X : Type 0} (a b c d : List X) → a ++ b ≡ c ++ d → length a ≡ length c → (a ≡ c) × (b ≡ d)
parts_same [] b [] d e n = (refl, e)
parts_same [] b (y ∷ c) d e n = absurd (omega arith)
parts_same (x ∷ a) b [] d e n = absurd (omega arith)
parts_same (x ∷ a) b (y ∷ c) d e n = grind (arith, parts_same a b c d)

-- the rows and the spans say which forest it is
pub same_forest : {R : Type 0} (n : ℕ) (f g : Forest R) → size f ≤ n → post f ≡ post g → spans_of f ≡ spans_of g → f ≡ g
same_forest zero f g h p s = size_zero f (omega arith) ∙ sym (size_zero g (omega (arith, length-post f, length-post g, ap length p)))
same_forest (suc n) bare g h p s = sym (size_zero g (omega (arith, length-post g, ap length p)))
same_forest (suc n) (plant q d t) g h p s =
    let f = plant q d t in
    let a = apart f (omega arith) in
    let b = apart g (omega (arith, length-post f, length-post g, ap length p)) in
    let (pf, r) = same_from_push _ _ _ _ (sym a.posts ∙ p ∙ b.posts) in
    let (sf, z) = same_from_push _ _ _ _ (sym a.spans ∙ s ∙ b.spans) in
    let k : size a.earlier ≡ size b.earlier = omega (arith, length-post f, length-post g, ap length p, a.sizes, b.sizes) in
    let (pe, pw) = parts_same (post a.earlier) (post a.below) (post b.earlier) (post b.below) pf (omega (arith, length-post a.earlier, length-post b.earlier)) in
    let (se, sw) = parts_same (spans_of a.earlier) (spans_of a.below) (spans_of b.earlier) (spans_of b.below) sf (omega (arith, length-spans_of a.earlier, length-spans_of b.earlier)) in
    let e = same_forest n a.earlier b.earlier (omega (arith, a.sizes)) pe se in
    let w = same_forest n a.below b.below (omega (arith, a.sizes)) pw sw in
    cc (a.is, b.is)

-- the rows alone do, with their citations
pub one_tree : {R : Type 0} (cited : R → Option (List ℕ)) (rows : List R) (s t : Lists cited rows) → tree s ≡ tree t
one_tree cited rows s t =
    same_forest (size (tree s)) (tree s) (tree t) (omega arith) (sym s.listing ∙ t.listing) (ap (λ x. x.written) (sym (tree-scan cited rows s) ∙ tree-scan cited rows t))
