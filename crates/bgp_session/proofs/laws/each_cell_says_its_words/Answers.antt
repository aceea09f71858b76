use Rattle.bgp_session.proofs.TableLemmas.{words_of}
use Rattle.bgp_session.proofs.laws.each_cell_says_its_words.Goals as goal

pub returns : goal.returns
returns c = words_of
