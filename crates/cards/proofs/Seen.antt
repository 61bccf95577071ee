-- Cards that are read as one network are alike to every call, since a call takes from a card what `read_card` gives and nothing else.
-- Assumes nothing.
use mathlib.Core.Path.{◌≡◌, refl, sym, ap, ◌∙◌}
use mathlib.Core.List.{List}
use Prim.Native.Nat.{ℕ}
use Rattle.network.specs.Links.{Links}
use Rattle.network.specs.Card.{Network, network, refused, read_card}
use Rattle.network.proofs.Accepted.{accepted_short}
use Rattle.network.proofs.Networks.{network_accepted}
use Rattle.split.specs.Split.{split_test}
use Rattle.two_way.specs.Quick.{quick_test}
use Rattle.plan.specs.Check.{check_plan}
use Rattle.load.specs.Load.{load_call}
use Rattle.steps.specs.Run.{run_plan, lent_after}
use Rattle.part.specs.Calls.{site_of, start_call, ask_call, commit_call}
use Rattle.printer.specs.Print.{whole_card, clean_card, print_into, printed_in}
use Rattle.cards.specs.Twins.{unplaced, Alike, SeenOnce}
use Rattle.cards.proofs.Whole.{whole_same}

pub read_alike : (s t : List ℕ) → read_card s ≡ read_card t → Alike s t
unfolding print_into printed_in clean_card split_test quick_test check_plan load_call run_plan lent_after site_of start_call ask_call commit_call
read_alike s t e =
    record {
      read = e;
      print = λ lent. rw e refl;
      printed = λ lent. rw e refl;
      split = rw e refl;
      quick = rw e refl;
      check = λ plan. rw e refl;
      load = λ plan. rw e refl;
      run = λ plan inputs faulty lent. rw e refl;
      bytes = λ plan inputs faulty table lent. rw e refl;
      start = λ plan server input. rw e refl;
      ask = λ plan server state lent. rw e refl;
      commit = λ plan server state arrived. rw e refl;
    }

-- a network has no place
placed_read : (a : Network) (n f : ℕ) (links : Links) → unplaced a ≡ network n f links → a ≡ network n f links
placed_read (network m g marks) n f links e = e
placed_read (refused r) n f links e = cc

pub seen_alike : SeenOnce
seen_alike n f xs ys s h m g links e =
    let k = accepted_short (whole_card n f xs) (network_accepted (whole_card n f xs) m g links e) in
    let u = sym (whole_same n f xs ys s k h) ∙ ap unplaced e in
    read_alike (whole_card n f xs) (whole_card n f ys) (e ∙ sym (placed_read (read_card (whole_card n f ys)) m g links u))
