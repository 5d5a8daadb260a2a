-- Forests and their listings: joined forests, the trees that citations name, and the scan of a listing.
use Rattle.std.proofs.Common.{◌≡◌, ℕ, ◌+◌, ◌-◌, ◌<◌, List, [], ◌∷◌, ◌++◌, length, get_or, Some, Option, sym, refl, ap, ◌∙◌, arith}
use Rattle.std.proofs.lemmas.Bool.Decides.{nat_tests}
use Rattle.std.proofs.lemmas.Grind.{common_steps}
use Rattle.std.proofs.lemmas.List.{append_assoc, append-nil, length-append}
use Rattle.screening.specs.Screening.{laid, total, span_of, scan}
use Rattle.screening.specs.Trees.{Forest, bare, plant, size, post, spans_of, roots, Cites}
use Rattle.screening.proofs.Scans.{before_is}

abbrev pub join : {R : Type 0} → Forest R → Forest R → Forest R
join bare h = h
join (plant r c g) h = plant r c (join g h)

pub size-join : {R : Type 0} (g h : Forest R) → size (join g h) ≡ size g + size h
size-join bare h = omega arith
size-join (plant r c g) h = omega (arith, size-join g h)

pub post-join : {R : Type 0} (g h : Forest R) → post (join g h) ≡ post g ++ post h
post-join bare h = refl
post-join (plant r c g) h = simp (post-join g h, append_assoc)

pub spans_of-join : {R : Type 0} (g h : Forest R) → spans_of (join g h) ≡ spans_of g ++ spans_of h
spans_of-join bare h = refl
spans_of-join (plant r c g) h = simp (spans_of-join g h, append_assoc)

pub length-spans_of : {R : Type 0} (f : Forest R) → length (spans_of f) ≡ size f
length-spans_of bare = refl
length-spans_of (plant r c f) = omega (arith, length-append {A = ℕ}, length-spans_of c, length-spans_of f)

pub length-post : {R : Type 0} (f : Forest R) → length (post f) ≡ size f
length-post bare = refl
length-post (plant r c f) = omega (arith, length-append (post c) (r ∷ post f), length-post c, length-post f)

pub join_assoc : {R : Type 0} (f g h : Forest R) → join (join f g) h ≡ join f (join g h)
join_assoc bare g h = refl
join_assoc (plant r c f) g h = ap (plant r c) (join_assoc f g h)

pub cites_join : {R : Type 0} (cited : R → Option (List ℕ)) (base : ℕ) (g h : Forest R) → Cites cited base (join g h) → Cites cited base g × Cites cited (base + size g) h
cites_join cited base bare h k = grind arith
cites_join cited base (plant r c g) h k = grind (arith, cites_join cited (base + size c + 1) g h)

pub join_cites : {R : Type 0} (cited : R → Option (List ℕ)) (base : ℕ) (g h : Forest R) → Cites cited base g → Cites cited (base + size g) h → Cites cited base (join g h)
join_cites cited base bare h a b = grind arith
join_cites cited base (plant r c g) h a b = grind (arith, join_cites cited (base + size c + 1) g h)

-- a forest with its last tree apart
pub record Apart {R : Type 0} (f : Forest R) : Type 0 where
  pub earlier : Forest R
  pub root : R
  pub below : Forest R
  pub is : f ≡ join earlier (plant root below bare)
  pub posts : post f ≡ (post earlier ++ post below) ++ root ∷ []
  pub spans : spans_of f ≡ (spans_of earlier ++ spans_of below) ++ (size below + 1) ∷ []
  pub sizes : size f ≡ size earlier + size below + 1

pub apart_by : {R : Type 0} (f g : Forest R) (r : R) (c : Forest R) → f ≡ join g (plant r c bare) → Apart f
apart_by f g r c e =
    record {
      earlier = g;
      root = r;
      below = c;
      is = e;
      posts = rw e (simp (post-join, append_assoc));
      spans = rw e (simp (spans_of-join, append_assoc));
      sizes = rw e (omega (arith, size-join g (plant r c bare)));
    }

pub apart_last : {R : Type 0} (r : R) (c f : Forest R) → Apart (plant r c f)
apart_last r c bare = apart_by (plant r c bare) bare r c refl
apart_last r c (plant q d f) =
    let l = apart_last q d f in
    apart_by _ (plant r c l.earlier) l.root l.below (ap (plant r c) l.is)

pub apart : {R : Type 0} (f : Forest R) → 0 < size f → Apart f
apart bare h = absurd (omega arith)
apart (plant r c f) h = apart_last r c f

-- the span of a root
pub root_span : {R : Type 0} (pre : List ℕ) (c f : Forest R) (done : List ℕ) → done ≡ pre ++ (spans_of c ++ ((size c + 1) ∷ spans_of f)) → (p : ℕ) → p ≡ length pre + size c → get_or done p 0 ≡ size c + 1
root_span pre c f done e p q = grind (arith, common_steps, length-spans_of)

-- the roots of the last trees are laid as citations must be, and their spans are the rows of these trees
pub roots_laid : {R : Type 0} (pre : List ℕ) (f : Forest R) (done : List ℕ) → done ≡ pre ++ spans_of f → (n : ℕ) → n ≡ length pre + size f → (base : ℕ) → base ≡ length pre → (laid done n (roots base f) ≡ Some base) × (total done (roots base f) ≡ size f)
roots_laid pre bare done e n q base b = grind arith
roots_laid pre (plant r c f) done e n q base b =
    let after = (pre ++ spans_of c) ++ (size c + 1) ∷ [] in
    let l : length after ≡ length pre + size c + 1 = omega (arith, length-append {A = ℕ}, length-spans_of c) in
    let h = roots_laid after f done (rw e (simp append_assoc)) n (omega arith) (base + size c + 1) (omega arith) in
    let s = root_span pre c f done e (base + size c) (omega arith) in
    grind (arith, nat_tests)

pub span_of-roots : {R : Type 0} (pre : List ℕ) (f : Forest R) (base : ℕ) → base ≡ length pre → span_of (pre ++ spans_of f) (roots base f) ≡ Some (size f + 1)
span_of-roots pre f base b =
    grind (arith, common_steps, length-spans_of, roots_laid pre f (pre ++ spans_of f) refl (length (pre ++ spans_of f)))

-- The trees of a forest are scanned one after the other.
pub scan-post : {R : Type 0} (cited : R → Option (List ℕ)) (f : Forest R) (more : List R) (done : List ℕ) (base : ℕ) → base ≡ length done → Cites cited base f → scan cited (post f ++ more) done ≡ scan cited more (done ++ spans_of f)
scan-post cited bare more done base b k = ap (scan cited more) (sym (append-nil done))
scan-post cited (plant r c f) more done base b k =
    let before = done ++ spans_of c in
    let after = before ++ (size c + 1) ∷ [] in
    let i = scan-post cited c (r ∷ (post f ++ more)) done base b k.0 in
    let j : scan cited (r ∷ (post f ++ more)) before ≡ scan cited (post f ++ more) after = rw (k.1, span_of-roots done c base b) in
    let m = scan-post cited f more after (base + size c + 1) (omega (arith, length-append {A = ℕ}, length-spans_of c)) k.2 in
    rw append_assoc (i ∙ j ∙ m ∙ ap (scan cited more) (simp append_assoc))

pub join_bare : {R : Type 0} (f : Forest R) → join f bare ≡ f
join_bare bare = refl
join_bare (plant r c f) = ap (plant r c) (join_bare f)

pub size_zero : {R : Type 0} (f : Forest R) → size f ≡ 0 → f ≡ bare
size_zero bare e = refl
size_zero (plant r c f) e = absurd (omega arith)

-- the trees that citations name are the last ones
pub record Split {R : Type 0} (f : Forest R) (m : ℕ) (ps : List ℕ) : Type 0 where
  pub earlier : Forest R
  pub named : Forest R
  pub is : f ≡ join earlier named
  pub at : size earlier ≡ m
  pub cites : roots m named ≡ ps

-- one more citation names the last of the earlier trees
split_more : {R : Type 0} (f : Forest R) (n p m : ℕ) (ps : List ℕ) → Split f n ps → p + 1 ≡ n → m ≡ n - get_or (spans_of f) p 0 → Split f m (p ∷ ps)
split_more f n p m ps i e d =
    let a = apart i.earlier (omega arith) in
    let w : f ≡ join a.earlier (plant a.root a.below i.named) = cc (i.is, a.is, join_assoc a.earlier (plant a.root a.below bare) i.named) in
    let s = root_span (spans_of a.earlier) a.below i.named (spans_of f) (ap spans_of w ∙ spans_of-join a.earlier (plant a.root a.below i.named)) p (omega (arith, a.sizes, length-spans_of a.earlier)) in
    let x : m + size a.below ≡ p = omega (arith, a.sizes) in
    let y : m + size a.below + 1 ≡ n = omega arith in
    record { earlier = a.earlier; named = plant a.root a.below i.named; is = w; at = omega (arith, a.sizes); cites = rw (y, x, i.cites) }

pub split : {R : Type 0} (f : Forest R) (n : ℕ) → n ≡ size f → (ps : List ℕ) (m : ℕ) → laid (spans_of f) n ps ≡ Some m → Split f m ps
split f n q [] m e = let k : n ≡ m = cc in record { earlier = f; named = bare; is = sym (join_bare f); at = omega arith; cites = refl }
split f n q (p ∷ ps) m e =
    let h = before_is (spans_of f) p (laid (spans_of f) n ps) m e in
    split_more f h.0 p m ps (split f n q ps h.0 h.1) h.2 h.3
