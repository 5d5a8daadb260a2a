-- Tables that list trees: every row comes after the trees below it, and cites their roots.
use Rattle.std.specs.Prelude.{◌≡◌, ℕ, ◌+◌, ◌<◌, ◌≤◌, ◌⊎◌, List, [], ◌∷◌, ◌++◌, length, take, drop, Some, None, Ok, Err, Option, Result, ◌≢◌}
use Rattle.std.specs.List.{slice_get}
use Rattle.screening.specs.declared.fault.ScreenFault.{ScreenFault}
use Rattle.screening.specs.declared.fault.ScreenFault.TheVariants.{Size, Memory, Malformed, Citation, SeveralTrees}

-- Trees side by side: the first one's row, the trees below it, and the trees after it.
pub data Forest (R : Type 0) : Type 0 where
  bare : Forest R
  plant : R → Forest R → Forest R → Forest R

-- how many rows there are
abbrev pub size : {R : Type 0} → Forest R → ℕ
size bare = 0
size (plant r below after) = size below + (1 + size after)

-- the rows in post-order: what is below a row, the row, what comes after
abbrev pub post : {R : Type 0} → Forest R → List R
post bare = []
post (plant r below after) = post below ++ (r ∷ post after)

-- the span of each row in that order: the rows of its tree
abbrev pub spans_of : {R : Type 0} → Forest R → List ℕ
spans_of bare = []
spans_of (plant r below after) = spans_of below ++ ((size below + 1) ∷ spans_of after)

-- the row numbers of the roots, where the listing begins at the row `base`
abbrev pub roots : {R : Type 0} → ℕ → Forest R → List ℕ
roots base bare = []
roots base (plant r below after) = (base + size below) ∷ roots (base + size below + 1) after

-- every row cites the roots of the trees right below it
abbrev pub Cites : {R : Type 0} → (R → Option (List ℕ)) → ℕ → Forest R → Type 0
Cites cited base bare = Unit {0}
Cites cited base (plant r below after) =
    Cites cited base below × (cited r ≡ Some (roots base below)) × Cites cited (base + size below + 1) after

-- the rows list trees side by side, in post-order, with their citations
pub record ListsTrees {R : Type 0} (cited : R → Option (List ℕ)) (rows : List R) : Type 0 where
  pub forest : Forest R
  pub listing : rows ≡ post forest
  pub citing : Cites cited 0 forest

-- the rows list one tree
pub record Lists {R : Type 0} (cited : R → Option (List ℕ)) (rows : List R) : Type 0 where
  pub root : R
  pub below : Forest R
  pub listing : rows ≡ post (plant root below bare)
  pub citing : Cites cited 0 (plant root below bare)

-- that tree
abbrev pub tree : {R : Type 0} {cited : R → Option (List ℕ)} {rows : List R} → Lists cited rows → Forest R
tree t = plant t.root t.below bare

-- a number stands in a list
abbrev pub Has : ℕ → List ℕ → Type 0
Has p [] = ⊥
Has p (q ∷ qs) = (p ≡ q) ⊎ Has p qs

-- each number is below all that follow it
abbrev pub Ascending : List ℕ → Type 0
Ascending [] = Unit {0}
Ascending (p ∷ ps) = ((q : ℕ) → Has q ps → p < q) × Ascending ps

-- row i cites row p
pub record RowCites {R : Type 0} (cited : R → Option (List ℕ)) (rows : List R) (i p : ℕ) : Type 0 where
  pub row : R
  pub here : slice_get rows i ≡ Some row
  pub citations : List ℕ
  pub known : cited row ≡ Some citations
  pub cites : Has p citations

-- Every row has its citations, if only an empty list, and they ascend; each is of an earlier row; and no two rows cite
-- one row.
pub record Citations {R : Type 0} (cited : R → Option (List ℕ)) (rows : List R) : Type 0 where
  pub known : (i : ℕ) (r : R) → slice_get rows i ≡ Some r → (ps : List ℕ) × (cited r ≡ Some ps) × Ascending ps
  pub earlier : (i p : ℕ) → RowCites cited rows i p → p < i
  pub once : (i j p : ℕ) → RowCites cited rows i p → RowCites cited rows j p → i ≡ j

-- The rows before row i list trees, whose sizes are written, and with row i they list none.
pub record StopsAt {R : Type 0} (cited : R → Option (List ℕ)) (rows : List R) (memory written : List ℕ) (i : ℕ) : Type 0 where
  pub within : i < length rows
  pub before : ListsTrees cited (take i rows)
  pub sizes : written ≡ spans_of before.forest ++ drop i memory
  pub no_more : ListsTrees cited (take (i + 1) rows) → ⊥

-- The rows list trees, whose sizes are written, and not one tree; i is the last row.
pub record DividesAt {R : Type 0} (cited : R → Option (List ℕ)) (rows : List R) (memory written : List ℕ) (i : ℕ) : Type 0 where
  pub last : i + 1 ≡ length rows
  pub trees : ListsTrees cited rows
  pub sizes : written ≡ spans_of trees.forest ++ drop (length rows) memory
  pub not_one : Lists cited rows → ⊥

-- What screening means. It accepts exactly the tables of 1 to `limit` rows, with memory enough, that list one tree. There
-- is one such tree, and the sizes of its subtrees are written. A refusal says what is wrong: the length, the memory, a
-- row that is not as its code asks, a row with which the rows no more list trees, or that they list several.
pub record ScreeningLaw {R : Type 0} (cited : R → Option (List ℕ)) (limit : ℕ) (rows : List R) (memory : List ℕ) (answer : Result (Unit {0}) ScreenFault) (written : List ℕ) : Type 0 where
  pub only : answer ≡ Ok tt → Lists cited rows × (length rows ≤ limit) × (length rows ≤ length memory)
  pub every : Lists cited rows → length rows ≤ limit → length rows ≤ length memory → answer ≡ Ok tt
  pub sizes : answer ≡ Ok tt → (t : Lists cited rows) → written ≡ spans_of (tree t) ++ drop (length rows) memory
  pub one : (s t : Lists cited rows) → tree s ≡ tree t
  pub citing : answer ≡ Ok tt → Citations cited rows
  pub wrong_size : answer ≡ Err Size → ((length rows ≡ 0) ⊎ (limit < length rows)) × (written ≡ memory)
  pub wrong_memory : answer ≡ Err Memory → (length memory < length rows) × (written ≡ memory)
  pub malformed : (i : ℕ) → answer ≡ Err (Malformed i) → StopsAt cited rows memory written i × ((r : R) → slice_get rows i ≡ Some r → cited r ≡ None)
  pub miscited : (i : ℕ) → answer ≡ Err (Citation i) → StopsAt cited rows memory written i × ((r : R) → slice_get rows i ≡ Some r → cited r ≢ None)
  pub several : (i : ℕ) → answer ≡ Err (SeveralTrees i) → DividesAt cited rows memory written i
