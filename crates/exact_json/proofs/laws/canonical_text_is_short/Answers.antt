use Rattle.exact_json.proofs.TextSizes.{denoted_tenfold, spelled_denotes}
use Rattle.exact_json.proofs.laws.canonical_text_is_short.Goals as goal

pub returns : goal.returns
returns c = λ line json s. denoted_tenfold line json (spelled_denotes line json s)
