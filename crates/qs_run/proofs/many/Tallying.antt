-- One more run: what is said of a tally of so many runs is said of one more, once its order was counted.
use Rattle.std.proofs.Common.{◌≡◌, ◌≤◌, ℕ, suc, Bool, Some, List, [], ◌∷◌, ◌++◌, length, map, slice_get, sym, subst, arith, length-append, rules}
use Rattle.qs_run.proofs.Names.{AreAsTheyCame, CountedShape, IsBegun, IsComplete, IsCountOf, IsCounted, IsOutcome, IsTallyBy, Played, ProgramShape, Ticket, counted_on, each_snoc, length-map}
use Rattle.qs_run.proofs.Names.{map-append, standings_in, times_within}
use Rattle.qs_syncset.specs.declared.mode.Mode.{Mode}
use Rattle.qs_tally.proofs.Goes.{listed_on, unlisted_on}
use Rattle.qs_run.proofs.many.Comings.{came_none, came_on}

abbrev pub order_shown : Played → List Ticket
order_shown o = o.order

pub complete_of : (p : ProgramShape) (mode : Mode) (size : ℕ) (o : Played) → IsOutcome p mode size o → IsComplete p o.order
complete_of p mode size o is = record { legal = is.legal; once = is.once }

pub tally_begun : (p : ProgramShape) (mode : Mode) (size limit : ℕ) (listed : Bool) (ends : List CountedShape) → IsBegun p limit listed ends
    → IsTallyBy p mode size 0 limit (record { ends = ends; listed = listed })
tally_begun p mode size limit listed ends begun = search (rules, came_none)

-- each end has come at most as often as there were runs
pub few_times : (p : ProgramShape) (mode : Mode) (size many limit : ℕ) (listed : Bool) (ends : List CountedShape) → IsTallyBy p mode size many limit (record { ends = ends; listed = listed })
    → (k : ℕ) (e : CountedShape) → slice_get ends k ≡ Some e → e.times ≤ many
few_times p mode size many limit listed ends tally k e at =
    let few = times_within p (map order_shown tally.runs) ends k e tally.counted at in
    let long : length (map order_shown tally.runs) ≡ length tally.runs = length-map tally.runs order_shown in
    let all = tally.all_runs in omega (arith, few, long, all)

pub tally_on : (p : ProgramShape) (mode : Mode) (size many limit : ℕ) (listed : Bool) (before after : List CountedShape) (o : Played)
    → IsTallyBy p mode size many limit (record { ends = before; listed = listed }) → IsOutcome p mode size o → IsCounted p o.order before after
    → IsTallyBy p mode size (suc many) limit (record { ends = after; listed = listed })
tally_on p mode size many limit listed before after o tally is counted = record {
  runs = tally.runs ++ o ∷ [];
  all_runs = (let long = length-append tally.runs (o ∷ []) in let all = tally.all_runs in omega (arith, long, all));
  each = each_snoc (IsOutcome p mode size) tally.runs o tally.each is;
  counted = subst (λ orders. IsCountOf p orders after) (sym (map-append order_shown tally.runs (o ∷ []))) (counted_on p o.order (map order_shown tally.runs) before after tally.counted counted);
  listed = λ e. listed_on p o.order before after counted limit (complete_of p mode size o is) (tally.listed e);
  unlisted = λ e. unlisted_on p o.order before after counted limit (tally.unlisted e);
  as_they_came = λ e. subst (λ orders. AreAsTheyCame p orders (standings_in after)) (sym (map-append order_shown tally.runs (o ∷ [])))
      (came_on p o.order (map order_shown tally.runs) before after tally.counted counted (tally.as_they_came e));
}
