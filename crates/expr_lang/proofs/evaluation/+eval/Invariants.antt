-- what the links that are left make of the value so far is the outcome of the chain
use Rattle.expr_lang.proofs.Imports.{◌≡◌, ◌≤◌, length, fold, size-Links, outcome_of, chain_term, links_outcome, AreWithin}
use Rattle.expr_lang.proofs.evaluation.+eval.Given as goal

abbrev pub invariant-chain_value-loop-links : goal.invariant-chain_value-loop-links
invariant-chain_value-loop-links g l =
    let row = g.R.Row in
    record {
      no_deeper : size-Links l.links ≤ size-Links l.chain.links;
      answer : (links_outcome (row.numbers l.row) l.index l.links l.value).answer ≡ (outcome_of (row.numbers l.fn.row) l.index (chain_term l.chain)).answer;
      state : fold row.after (row.state l.row) (links_outcome (row.numbers l.row) l.index l.links l.value).reads
          ≡ fold row.after (row.state l.fn.row) (outcome_of (row.numbers l.fn.row) l.index (chain_term l.chain)).reads;
      numbers : row.numbers l.row ≡ row.numbers l.fn.row;
      within : AreWithin (length (row.numbers l.row)) (length l.index) l.links;
    }
