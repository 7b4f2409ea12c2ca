mod OptionValues
mod ModeFacts
