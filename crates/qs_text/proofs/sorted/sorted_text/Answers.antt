-- The elements of the sorted vector, each by its bytes: no permutation and no order is lost where they are read.
use Rattle.std.proofs.Common.{◌≡◌, ◌∙◌, ◌+◌, ◌<◌, ◌++◌, ℕ, List, length, map, get_or, is_lt, nat_cmp, Vec, Global, ap₂, arith}
use Rattle.std.specs.Cmp.Lexicographic.{slice_cmp}
use Rattle.std.proofs.lemmas.List.{length-map, get_or-map}
use Rattle.std.proofs.lemmas.List.Sorted.{IsPermutation-map}
use Rattle.qs_text.specs.SortedTexts.{joined}
use Rattle.qs_text.proofs.sorted.sorted_text.Goals as goal

pub returns : goal.returns
returns c =
    let texts = c.sort_unstable.new.self.items in
    let bytes : Vec ℕ Global → List ℕ = λ text. text.items in
    let read : (k : ℕ) (d : List ℕ) → k < length (map bytes texts) → get_or (map bytes texts) k d ≡ bytes (get_or texts k c.new-out.result) =
    λ k d less. get_or-map bytes texts k c.new-out.result d (let n = length-map texts bytes in omega (arith, less, n)) in
    record {
      sorted = (
        map bytes texts,
        (
          IsPermutation-map bytes c.args.texts.items texts c.sort_unstable.ensures.permutation,
          λ k d low less.
              ap₂ (λ (x y : List ℕ). is_lt (slice_cmp nat_cmp x y)) (read (k + 1) d less) (read k d (omega (arith, less)))
              ∙ c.sort_unstable.ensures.sorted k c.new-out.result low (let n = length-map texts bytes in omega (arith, less, n)),
        ),
        c.in_ok-put_texts.ensures.ok
            ∙ ap₂ (λ (l : List ℕ) (vs : List (Vec ℕ Global)). l ++ joined (map bytes vs)) c.new-out.ensures.items c.as_slice.ensures.value,
      );
    }
