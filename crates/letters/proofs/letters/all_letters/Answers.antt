-- `all` tests each letter.
use Rattle.std.proofs.Common.{rules, tests, ◌∙◌}
use Rattle.std.proofs.lemmas.Iterator.{YieldsList-from_slice}
use Rattle.std.proofs.lemmas.Iterator.Search.{all_from_yields_List}
use Rattle.model.specs.Letters.{is_letter}
use Rattle.letters.proofs.LetterLaws.{all_of_list, named_is_ok}
use Rattle.letters.proofs.letters.all_letters.Goals as goal

pub returns : goal.returns
returns c =
    all_from_yields_List is_letter _ _ c.all.result c.all.ensures.ran (YieldsList-from_slice _ c.iter.ensures.rest) (λ x b q k. search (rules, tests, named_is_ok))
    ∙ all_of_list is_letter _
