use Rattle.item_wire.proofs.TableLemmas.{words_of}
use Rattle.item_wire.proofs.laws.each_cell_says_its_words.Goals as goal

pub returns : goal.returns
returns c = words_of
