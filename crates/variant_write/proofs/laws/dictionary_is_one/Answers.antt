use Rattle.variant_write.proofs.DictionaryNames.{dictionary_has, dictionary_rises, dictionary_same, dictionary_one, dictionary_utf8, dictionary_within}
use Rattle.variant_write.proofs.laws.dictionary_is_one.Goals as goal

pub returns : goal.returns
returns c = record {
  has = dictionary_has;
  rises = dictionary_rises;
  same = dictionary_same;
  one = dictionary_one;
  utf8 = dictionary_utf8;
  within = dictionary_within;
}
