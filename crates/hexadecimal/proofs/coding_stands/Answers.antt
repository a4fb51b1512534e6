use Rattle.hexadecimal.proofs.Rounds.{encoded_decodes, decoded_encodes, encoded_whole, decoded_bytes}
use Rattle.hexadecimal.proofs.coding_stands.Goals as goal

pub returns : goal.returns
returns c = record { decodes = encoded_decodes; encodes = decoded_encodes; whole = encoded_whole; bytes = decoded_bytes }
